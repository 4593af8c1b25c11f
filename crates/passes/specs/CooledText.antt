-- The report of the cooled run of a program.
use Rattle.std.specs.Prelude.{ℕ, nat_lt, if◌then◌else◌, List, [], ◌∷◌, ◌++◌, length, map, flat_map, codes, decimal}
use Rattle.std.specs.List.{enumerate_from, range_with_len}
use Rattle.qccd_base.specs.Greatest.{greatest}
use Rattle.qccd_base.specs.Line.{line}
use Rattle.qccd_machine.specs.Machine.{MachineData}
use Rattle.op_table.specs.declared.kinds.OpKind.{OpKind}
use Rattle.op_table.specs.State.{State, is_on_segment, is_in_junction}
use Rattle.qccd_program.specs.Program.{ProgramData}
use Rattle.op_text.specs.OpText.{next_word, op_text}
use Rattle.tracer.specs.Report.{labelled, size_line, start_line, end_line, stray_lines, count_text, columns}
use Rattle.passes.specs.Cool.{Task, Cools, Does, Timing, cooled_run, cooled_end, cools_of}

-- by start; of those with one start the one that stands first in the run. So a cool stands before its operation
abbrev pub put_by_start : Timing → List Timing → List Timing
put_by_start e [] = e ∷ []
put_by_start e (x ∷ xs) = if nat_lt x.start e.start then x ∷ put_by_start e xs else e ∷ x ∷ xs

abbrev pub by_start : List Timing → List Timing
by_start [] = []
by_start (e ∷ es) = put_by_start e (by_start es)

abbrev pub task_text : Task → List ℕ
task_text (Cools t) = labelled (codes "cool T") t.0
task_text (Does op) = op_text op

abbrev pub task_line : Timing → List ℕ
task_line e = line (decimal e.number ++ next_word (decimal e.start) ++ next_word (decimal e.finish) ++ next_word (task_text e.task))

-- what is left where in a state
abbrev pub end_lines : MachineData → State → List ℕ
end_lines m s =
    flat_map (end_line s) (range_with_len 0 (length m.capacities))
    ++ flat_map (λ g. stray_lines s (is_on_segment g)) (range_with_len 0 (length m.segments))
    ++ flat_map (λ j. stray_lines s (is_in_junction j)) (range_with_len 0 m.junctions)

abbrev pub counts_line : List OpKind → ℕ → List ℕ
counts_line ops cools = line (codes "counts" ++ flat_map (count_text ops) (enumerate_from 0 columns) ++ labelled (codes " cool ") cools)

abbrev pub cooled_text : ProgramData → ℕ → List ℕ
cooled_text p ceiling =
    let run = cooled_run p ceiling in
    line (codes "QCCD cooled report 1")
    ++ line (labelled (codes "ceiling ") ceiling)
    ++ size_line p
    ++ flat_map start_line (enumerate_from 0 p.start)
    ++ line (labelled (codes "ops ") (length p.ops))
    ++ flat_map task_line (by_start run)
    ++ end_lines p.machine (cooled_end p ceiling)
    ++ counts_line p.ops (length (cools_of run))
    ++ line (labelled (codes "finish ") (greatest (map (λ e. e.finish) run)))
