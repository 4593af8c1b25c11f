use Rattle.op_plan.specs.Plan.{state_of}
use Rattle.rebalancer.specs.Goal.{IsBest}
use Rattle.rebalancer.proofs.making.nearest.Given as goal

abbrev pub invariant-loop-number : goal.invariant-loop-number
invariant-loop-number l = IsBest l.machine (state_of l.plan) l.from.0 l.number l.best
