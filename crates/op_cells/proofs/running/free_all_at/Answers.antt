use Rattle.op_cells.proofs.Adjusting.{freed-next}
use Rattle.op_cells.proofs.running.free_all_at.Goals as goal

pub loop-res-preserved : goal.loop-res-preserved
loop-res-preserved c =
    freed-next c.args.machine.now c.args.touched.now c.args.finish c.args.cells.now c.loop-res.cells c.loop-res.res-index c.index_of-at.result _ c.index-cells-at.result c.loop-res-test.true c.index_of-at.ensures c.loop-res.invariant
