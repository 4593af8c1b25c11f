use Rattle.std.proofs.Common.{◌≤◌, arith}
use Rattle.op_table.proofs.worked_unsafe.full_junction.Goals as goal

pub returns-clause-two : goal.returns-clause-two
returns-clause-two c safe = let h : 2 ≤ 1 = safe.junctions 0 in omega (arith, h)

pub returns-clause-no_junction : goal.returns-clause-no_junction
returns-clause-no_junction c safe = let h : 1 ≤ 0 = safe.junctions 1 in omega (arith, h)
