-- The list that keeps the order rises; each other list has a pair that shares in the wrong order.
use Rattle.std.proofs.Common.{[], ◌∷◌, refl, arith}
use Rattle.qccd_base.specs.Names.{qubit}
use Rattle.qccd_circuit.specs.Example.{barrier_over, five_items, h_on, h_under, measure_into}
use Rattle.qccd_circuit.proofs.Rising.{same_order_from_rises}
use Rattle.qccd_circuit.proofs.worked.bits_and_barriers_keep_their_order.Goals as goal

pub returns-clause-apart : goal.returns-clause-apart
returns-clause-apart c = same_order_from_rises five_items (4 ∷ 0 ∷ 1 ∷ 2 ∷ 3 ∷ []) refl refl

pub returns-clause-bit : goal.returns-clause-bit
returns-clause-bit c = λ order. let first = order.kept 0 1 (measure_into 0 1) (h_under 1 0 2) (omega arith) refl refl refl in cc

pub returns-clause-barrier : goal.returns-clause-barrier
returns-clause-barrier c = λ order. let first = order.kept 2 3 (barrier_over (qubit 1 ∷ qubit 2 ∷ [])) (h_on 2) (omega arith) refl refl refl in cc
