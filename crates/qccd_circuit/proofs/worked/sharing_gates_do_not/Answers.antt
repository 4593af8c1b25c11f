-- The first gate and the last share, and the last stands first.
use Rattle.std.proofs.Common.{refl, arith}
use Rattle.qccd_circuit.specs.Example.{h_on, cx_on}
use Rattle.qccd_circuit.proofs.worked.sharing_gates_do_not.Goals as goal

pub returns : goal.returns
returns c = λ order. let first = order.kept 0 2 (h_on 0) (cx_on 0 1) (omega arith) refl refl refl in cc
