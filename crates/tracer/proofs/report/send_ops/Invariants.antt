use Rattle.std.proofs.Common.{ℕ, Ok, drop, length, take}
use Rattle.std.specs.Prelude.{flat_map}
use Rattle.tracer.specs.TimeOrder.{listed_ops, time_order}
use Rattle.tracer.specs.Report.{op_line}
use Rattle.tracer.specs.Counted.{Tallied}
use Rattle.tracer.specs.Merge.{Merged, left_of}
use Rattle.tracer.specs.Order.{ordered}
use Rattle.qccd_io.specs.declared.failed.Failed.{Failed}
use Rattle.qccd_io.specs.Sends.{Sends}
use Rattle.tracer.proofs.report.send_ops.Given as goal

-- the first i of the order are sent and counted, and the logs have the others
abbrev pub invariant-loop-done : goal.invariant-loop-done
invariant-loop-done g l =
    (i : ℕ)
    × Sends {T = Unit {0}} {E = Failed} g.S.Sink.taken g.S.Sink.faults g.S.Sink.behind l.fn.sink l.sink (Ok tt) (flat_map op_line (take i (time_order l.program)))
    × Tallied (take i (listed_ops l.program)) l.counts
    × Merged l.heads.items (drop i (ordered l.program))

abbrev pub decreases-loop-done : goal.decreases-loop-done
decreases-loop-done g l = length (left_of l.heads.items)
