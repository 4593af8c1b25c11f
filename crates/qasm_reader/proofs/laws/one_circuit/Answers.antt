use Rattle.qasm_reader.proofs.Answered.{one_circuit}
use Rattle.qasm_reader.proofs.laws.one_circuit.Goals as goal

pub returns : goal.returns
returns c = one_circuit
