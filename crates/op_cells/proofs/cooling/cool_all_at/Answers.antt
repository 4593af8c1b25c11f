use Rattle.op_cells.proofs.ColdRuns.{chilled-next}
use Rattle.op_cells.proofs.cooling.cool_all_at.Goals as goal

pub loop-res-preserved : goal.loop-res-preserved
loop-res-preserved c =
    chilled-next c.args.machine.now c.args.touched.now c.args.cells.now c.loop-res.cells c.loop-res.res-index c.index_of-at.result c.cool.new.content _ c.index-cells-at.result c.loop-res-test.true c.index_of-at.ensures c.cool.ensures c.loop-res.invariant
