use Rattle.std.proofs.Common.{◌∙◌, sym, arith}
use Rattle.router.proofs.Hopping.{near_at, near_none}
use Rattle.router.proofs.hops.Counts.near.Goals as goal

pub returns-then-is_at : goal.returns-then-is_at
returns-then-is_at c = near_at c.args.wiring.now c.args.self.now c.args.from.0 c.args.left c.loop-number.number (omega (arith, c.loop-number-test.true, c.traps-number-end.ensures.count)) c.loop-number.invariant (sym c.are_neighbours.ensures ∙ c.if-are_neighbours.true) (sym c.is_at.ensures ∙ c.if-is_at.true)

pub returns : goal.returns
returns c = near_none c.args.wiring.now c.args.self.now c.args.from.0 c.args.left c.loop-number.number (omega (arith, c.loop-number-test.false, c.traps-number-end.ensures.count)) c.loop-number.invariant
