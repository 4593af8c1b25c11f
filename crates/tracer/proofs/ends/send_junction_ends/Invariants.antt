use Rattle.std.proofs.Common.{Ok, take}
use Rattle.std.specs.Prelude.{flat_map}
use Rattle.qccd_program.specs.Program.{end_of}
use Rattle.op_table.specs.State.{is_in_junction}
use Rattle.tracer.specs.Report.{stray_lines}
use Rattle.std.specs.List.{range_with_len}
use Rattle.qccd_io.specs.declared.failed.Failed.{Failed}
use Rattle.qccd_io.specs.Sends.{Sends}
use Rattle.tracer.proofs.ends.send_junction_ends.Given as goal

abbrev pub invariant-loop-j : goal.invariant-loop-j
invariant-loop-j g l = Sends {T = Unit {0}} {E = Failed} g.S.Sink.taken g.S.Sink.faults g.S.Sink.behind l.fn.sink l.sink (Ok tt) (flat_map (λ n. stray_lines (end_of l.program) (is_in_junction n)) (take l.j (range_with_len 0 (l.program.machine.junctions))))
