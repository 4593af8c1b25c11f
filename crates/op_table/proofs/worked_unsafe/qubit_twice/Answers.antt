use Rattle.std.proofs.Common.{◌≡◌, arith}
use Rattle.op_table.proofs.worked_unsafe.qubit_twice.Goals as goal

pub returns : goal.returns
returns c safe = let h : 2 ≡ 1 = safe.qubits 0 (omega arith) in omega (arith, h)
