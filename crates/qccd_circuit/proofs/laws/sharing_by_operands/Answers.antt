use Rattle.qccd_circuit.proofs.Shared.{shares-operands}
use Rattle.qccd_circuit.proofs.laws.sharing_by_operands.Goals as goal

pub returns : goal.returns
returns c = shares-operands
