use Rattle.op_cells.proofs.Adjusting.{start-next}
use Rattle.op_cells.proofs.running.start_at.Goals as goal

pub loop-res-preserved : goal.loop-res-preserved
loop-res-preserved c =
    start-next c.args.machine.now c.args.touched.now c.args.cells.now c.loop-res.res-index c.index_of.result c.loop-res.start c.max-start.result _ c.index-cells-index_of.result c.loop-res-test.true c.index_of.ensures
    c.requires c.index-cells-index_of.is c.max-start.ensures c.loop-res.invariant
