use Rattle.qccd_top.proofs.Stopping.{circuit_refuses}
use Rattle.qccd_top.proofs.laws.refused_for_the_circuit.Goals as goal

pub returns : goal.returns
returns c = circuit_refuses
