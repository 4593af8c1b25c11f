use Rattle.std.proofs.Common.{◌<◌, length, arith}
use Rattle.op_cells.specs.Settled.{freed}
use Rattle.op_cells.proofs.Mapped.{mapped-step}
use Rattle.op_cells.proofs.held.free_all.Goals as goal

pub loop-x-preserved : goal.loop-x-preserved
loop-x-preserved c =
    let lt : c.loop-x.x-index < length c.args.held.now = omega arith in
    mapped-step (freed c.args.finish) c.args.held.now c.loop-x.held c.loop-x.x-index c.x-item.result lt c.loop-x.invariant
