use Rattle.qccd_top.proofs.Chain.{visit_stops, visit_on}
use Rattle.qccd_top.proofs.programs.loaded_in.Goals as goal

pub returns-in_err-machine : goal.returns-in_err-machine
returns-in_err-machine g c = visit_stops _ _ _ _ _ _ _ _ c.in_err-machine.ensures c.from_residual.ensures.1

pub returns : goal.returns
returns g c = visit_on _ _ _ _ _ _ _ _ _ c.in_ok-machine.ensures c.program_in.ensures
