use Rattle.qccd_machine.proofs.Sound.{none_applies}
use Rattle.qccd_machine.proofs.laws.not_both.Goals as goal

pub returns : goal.returns
returns c = none_applies
