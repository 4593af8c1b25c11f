use Rattle.std.proofs.Common.{◌≡◌, arith}
use Rattle.op_table.proofs.worked_unsafe.heat_missing.Goals as goal

pub returns : goal.returns
returns c safe = let h : 2 ≡ 3 = safe.heats in omega (arith, h)
