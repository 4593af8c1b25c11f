-- The summary of a rehearsed program.
use Rattle.std.specs.Prelude.{ℕ, List, ◌++◌, length, codes}
use Rattle.std.specs.List.{sum}
use Rattle.qccd_base.specs.Line.{line}
use Rattle.qccd_program.specs.Program.{ProgramData, end_of}
use Rattle.tracer.specs.Report.{labelled, counts_line, last_finish}

-- the sum of the heats of all traps at the end
abbrev pub traps_heat : ProgramData → ℕ
traps_heat p = sum (end_of p).heats

-- four lines: the number and the sizes of the rehearsal, the counts, the heat of the traps at the end, and the
-- greatest finish
abbrev pub summary_text : ProgramData → ℕ → ℕ → List ℕ
summary_text p number items =
    line (labelled (codes "rehearsal ") number ++ labelled (codes " qubits ") p.qubits ++ labelled (codes " items ") items
    ++ labelled (codes " ops ") (length p.ops))
    ++ counts_line p.ops
    ++ line (labelled (codes "heat ") (traps_heat p))
    ++ line (labelled (codes "finish ") (last_finish p))
