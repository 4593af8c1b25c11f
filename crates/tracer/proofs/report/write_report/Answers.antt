use Rattle.std.proofs.Common.{List, sym, subst}
use Rattle.op_cells.specs.declared.cells.Cell.{Cell}
use Rattle.tracer.specs.Merge.{AreSorted, Merged}
use Rattle.tracer.specs.Order.{logs_of}
use Rattle.tracer.proofs.LogsRise.{logs-sorted}
use Rattle.tracer.proofs.Telling.{merged_order}
use Rattle.tracer.proofs.report.write_report.Goals as goal

pub heads_of-requires : goal.heads_of-requires
heads_of-requires g c = subst AreSorted (sym c.as_slice.ensures) (logs-sorted c.args.program.now c.args.cells.now c.requires)

pub report_from-requires-clause-merged : goal.report_from-requires-clause-merged
report_from-requires-clause-merged g c =
    merged_order c.args.program.now c.args.cells.now c.in-Ok.heads.items c.ops-ops.ensures.legal c.requires
    (subst (λ (cells : List Cell). Merged c.in-Ok.heads.items (logs_of cells)) c.as_slice.ensures c.in-Ok.ensures)
