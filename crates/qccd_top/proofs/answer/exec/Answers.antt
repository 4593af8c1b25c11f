use Rattle.qccd_top.proofs.Chain.{does_stop, does_on, does_starve, does_write}
use Rattle.qccd_top.proofs.answer.exec.Goals as goal

pub returns-in_err-loaded : goal.returns-in_err-loaded
returns-in_err-loaded g c = does_stop _ _ _ _ _ _ _ _ _ _ _ c.in_err-loaded.ensures c.from_residual.ensures.1

pub returns-in_err-cells : goal.returns-in_err-cells
returns-in_err-cells g c = does_on _ _ _ _ _ _ _ _ _ _ _ _ _ c.in_ok-loaded.ensures (does_starve _ _ _ _ _ _ _ _ c.from_residual-in_err-cells.ensures.1)

pub returns : goal.returns
returns g c = does_on _ _ _ _ _ _ _ _ _ _ _ _ _ c.in_ok-loaded.ensures (does_write _ _ _ _ _ _ _ _ _ c.write_report.ensures)
