use Rattle.op_plan.proofs.Begun.{HomesUpTo}
use Rattle.op_plan.proofs.opening.opening_homes.Given as goal

abbrev pub invariant-loop-trap : goal.invariant-loop-trap
invariant-loop-trap l = HomesUpTo l.qubits l.chains l.trap l.homes.items
