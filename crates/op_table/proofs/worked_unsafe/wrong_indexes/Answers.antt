use Rattle.std.proofs.Common.{◌≡◌, arith}
use Rattle.op_table.proofs.worked_unsafe.wrong_indexes.Goals as goal

pub returns-clause-twice : goal.returns-clause-twice
returns-clause-twice c safe = let h : 2 ≡ 1 = safe.indexes 0 0 (omega arith) in omega (arith, h)

pub returns-clause-gap : goal.returns-clause-gap
returns-clause-gap c safe = let h : 0 ≡ 1 = safe.indexes 0 0 (omega arith) in omega (arith, h)
