use Rattle.qccd_top.proofs.Every.{some_due}
use Rattle.qccd_top.proofs.laws.some_due.Goals as goal

pub returns : goal.returns
returns c = some_due
