use Rattle.std.proofs.Common.{◌≤◌, arith}
use Rattle.op_table.proofs.worked_unsafe.over_capacity.Goals as goal

pub returns-clause-three_in_two : goal.returns-clause-three_in_two
returns-clause-three_in_two c safe = let h : 3 ≤ 2 = safe.capacities 1 in omega (arith, h)

pub returns-clause-no_trap : goal.returns-clause-no_trap
returns-clause-no_trap c safe = let h : 1 ≤ 0 = safe.capacities 3 in omega (arith, h)
