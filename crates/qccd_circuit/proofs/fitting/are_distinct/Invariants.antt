-- The qubits passed differ from all that come after them, so what is left decides.
use Rattle.std.proofs.Common.{◌≡◌, length}
use Rattle.qccd_circuit.specs.Item.{are_distinct}
use Rattle.qccd_circuit.proofs.fitting.are_distinct.Given as goal

abbrev pub invariant-loop-left : goal.invariant-loop-left
invariant-loop-left l = are_distinct l.qubits ≡ are_distinct l.left

abbrev pub decreases-loop-left : goal.decreases-loop-left
decreases-loop-left l = length l.left
