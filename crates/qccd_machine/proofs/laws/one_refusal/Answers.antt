use Rattle.qccd_machine.proofs.Sound.{one_first}
use Rattle.qccd_machine.proofs.laws.one_refusal.Goals as goal

pub returns : goal.returns
returns c = one_first
