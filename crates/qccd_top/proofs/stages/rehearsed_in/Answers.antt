use Rattle.qccd_top.proofs.Chain.{visit_stops, visit_on, pure_last}
use Rattle.qccd_top.proofs.stages.rehearsed_in.Goals as goal

pub returns-in_err-machine : goal.returns-in_err-machine
returns-in_err-machine g c = visit_stops _ _ _ _ _ _ _ _ c.in_err-machine.ensures c.from_residual.ensures.1

pub returns : goal.returns
returns g c = visit_on _ _ _ _ _ _ _ _ _ c.in_ok-machine.ensures (pure_last _ _ _ _ _ c.rehearsed.ensures)
