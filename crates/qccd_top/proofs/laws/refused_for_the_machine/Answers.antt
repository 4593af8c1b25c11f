use Rattle.qccd_top.proofs.Stopping.{machine_refuses}
use Rattle.qccd_top.proofs.laws.refused_for_the_machine.Goals as goal

pub returns : goal.returns
returns c = machine_refuses
