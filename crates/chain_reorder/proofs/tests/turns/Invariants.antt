use Rattle.op_plan.specs.Example.{IsOfThree}
use Rattle.chain_reorder.proofs.tests.turns.Given as goal

abbrev pub invariant-loop-number : goal.invariant-loop-number
invariant-loop-number l = IsOfThree l.plan
