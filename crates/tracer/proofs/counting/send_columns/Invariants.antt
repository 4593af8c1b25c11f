use Rattle.std.proofs.Common.{Ok, List, take}
use Rattle.std.specs.Prelude.{flat_map}
use Rattle.std.specs.List.{enumerate_from}
use Rattle.op_table.specs.declared.kinds.OpKind.{OpKind}
use Rattle.qccd_io.specs.declared.failed.Failed.{Failed}
use Rattle.qccd_io.specs.Sends.{Sends}
use Rattle.tracer.specs.Counted.{Tallied}
use Rattle.tracer.specs.Report.{columns, count_text}
use Rattle.tracer.proofs.counting.send_columns.Given as goal

abbrev pub invariant-loop-column : goal.invariant-loop-column
invariant-loop-column g l = (ops : List OpKind) → Tallied ops l.counts → Sends {T = Unit {0}} {E = Failed} g.S.Sink.taken g.S.Sink.faults g.S.Sink.behind l.fn.sink l.sink (Ok tt) (flat_map (count_text ops) (take l.column (enumerate_from 0 columns)))
