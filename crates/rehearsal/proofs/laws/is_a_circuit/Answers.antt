use Rattle.rehearsal.proofs.Circuits.{generated_circuit, length-drawn}
use Rattle.rehearsal.proofs.laws.is_a_circuit.Goals as goal

pub returns-clause-circuit : goal.returns-clause-circuit
returns-clause-circuit c = generated_circuit

pub returns-clause-items : goal.returns-clause-items
returns-clause-items c = λ number qubits items. length-drawn qubits number items
