use Rattle.qccd_top.proofs.Chain.{does_stop, does_on, does_write}
use Rattle.qccd_top.proofs.answer.check.Goals as goal

pub returns-in_err-_checked : goal.returns-in_err-_checked
returns-in_err-_checked g c = does_stop _ _ _ _ _ _ _ _ _ _ _ c.in_err-_checked.ensures c.from_residual.ensures.1

pub returns : goal.returns
returns g c = does_on _ _ _ _ _ _ _ _ _ _ _ _ _ c.in_ok-_checked.ensures (does_write _ _ _ _ _ _ _ _ _ c.write_same.ensures)
