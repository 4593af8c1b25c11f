use Rattle.std.proofs.Common.{◌≡◌, ◌-◌, ◌++◌, []}
use Rattle.std.specs.List.{range_with_len}
use Rattle.ion_mapping.specs.Placement.{uses}
use Rattle.ion_mapping.specs.Taking.{with_numbers}
use Rattle.ion_mapping.proofs.placing.ions_by_use.Given as goal

-- with the numbers to come they are all
abbrev pub invariant-loop-number : goal.invariant-loop-number
invariant-loop-number l = with_numbers l.taking (range_with_len l.number (l.circuit.qubits - l.number)) ≡ with_numbers [] (uses l.circuit.items ++ range_with_len 0 l.circuit.qubits)
