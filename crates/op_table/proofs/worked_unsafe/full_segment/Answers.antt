use Rattle.std.proofs.Common.{◌≤◌, arith}
use Rattle.op_table.proofs.worked_unsafe.full_segment.Goals as goal

pub returns-clause-two : goal.returns-clause-two
returns-clause-two c safe = let h : 2 ≤ 1 = safe.segments 0 in omega (arith, h)

pub returns-clause-no_segment : goal.returns-clause-no_segment
returns-clause-no_segment c safe = let h : 1 ≤ 0 = safe.segments 4 in omega (arith, h)
