use Rattle.op_plan.specs.Example.{IsOfThree}
use Rattle.op_plan.proofs.tests.exchanges.Given as goal

abbrev pub invariant-loop : goal.invariant-loop
invariant-loop l = IsOfThree l.plan
