use Rattle.std.proofs.Common.{◌≡◌, take}
use Rattle.op_plan.proofs.opening.capacities_of.Given as goal

abbrev pub invariant-loop-trap : goal.invariant-loop-trap
invariant-loop-trap l = l.capacities.items ≡ take l.trap l.machine.capacities
