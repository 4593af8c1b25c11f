use Rattle.std.proofs.Common.{Ok, take}
use Rattle.std.specs.Prelude.{flat_map, length}
use Rattle.qccd_program.specs.Program.{end_of}
use Rattle.op_table.specs.State.{is_on_segment}
use Rattle.tracer.specs.Report.{stray_lines}
use Rattle.std.specs.List.{range_with_len}
use Rattle.qccd_io.specs.declared.failed.Failed.{Failed}
use Rattle.qccd_io.specs.Sends.{Sends}
use Rattle.tracer.proofs.ends.send_segment_ends.Given as goal

abbrev pub invariant-loop-g : goal.invariant-loop-g
invariant-loop-g g l = Sends {T = Unit {0}} {E = Failed} g.S.Sink.taken g.S.Sink.faults g.S.Sink.behind l.fn.sink l.sink (Ok tt) (flat_map (λ n. stray_lines (end_of l.program) (is_on_segment n)) (take l.g (range_with_len 0 (length l.program.machine.segments))))
