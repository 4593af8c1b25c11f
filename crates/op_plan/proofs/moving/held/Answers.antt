use Rattle.op_plan.proofs.Shown.{held_at, within_at}
use Rattle.op_plan.proofs.moving.held.Goals as goal

pub at-requires : goal.at-requires
at-requires c = let r = c.requires in within_at r.0 r.1 c.args.cells.now c.args.res r.2 r.3

pub returns : goal.returns
returns c m s shows there = held_at m s c.args.cells.now c.args.res c.at.result.now shows there c.at.ensures
