use Rattle.std.proofs.Common.{◌≡◌, map, drop}
use Rattle.ion_mapping.specs.Taking.{with_numbers}
use Rattle.ion_mapping.proofs.taking.Taking.take_all.Given as goal

-- with those to come it is the whole
abbrev pub invariant-loop-qubit : goal.invariant-loop-qubit
invariant-loop-qubit l = with_numbers l.self (map (λ q. q.0) (drop l.qubit-index l.qubits)) ≡ with_numbers l.initial.self (map (λ q. q.0) l.qubits)
