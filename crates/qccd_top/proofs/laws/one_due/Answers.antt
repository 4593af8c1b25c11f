use Rattle.qccd_top.proofs.Dues.{one_due}
use Rattle.qccd_top.proofs.laws.one_due.Goals as goal

pub returns : goal.returns
returns c = one_due
