use Rattle.gate_defs.proofs.Unfolds.{unfolded}
use Rattle.gate_defs.proofs.laws.told_by_steps.Goals as goal

pub returns : goal.returns
returns c = λ defs id args qubits are there. unfolded are id args qubits there
