use Rattle.qccd_machine.proofs.Every.{valid_without_fault}
use Rattle.qccd_machine.proofs.laws.valid_without_fault.Goals as goal

pub returns : goal.returns
returns c = valid_without_fault
