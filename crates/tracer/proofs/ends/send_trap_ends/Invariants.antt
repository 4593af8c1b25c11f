use Rattle.std.proofs.Common.{Ok, take}
use Rattle.std.specs.Prelude.{flat_map, length}
use Rattle.qccd_program.specs.Program.{end_of}
use Rattle.tracer.specs.Report.{end_line}
use Rattle.std.specs.List.{range_with_len}
use Rattle.qccd_io.specs.declared.failed.Failed.{Failed}
use Rattle.qccd_io.specs.Sends.{Sends}
use Rattle.tracer.proofs.ends.send_trap_ends.Given as goal

abbrev pub invariant-loop-t : goal.invariant-loop-t
invariant-loop-t g l = Sends {T = Unit {0}} {E = Failed} g.S.Sink.taken g.S.Sink.faults g.S.Sink.behind l.fn.sink l.sink (Ok tt) (flat_map (end_line (end_of l.program)) (take l.t (range_with_len 0 (length l.program.machine.capacities))))
