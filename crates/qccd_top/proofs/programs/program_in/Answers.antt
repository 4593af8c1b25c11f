use Rattle.qccd_top.proofs.Chain.{visit_stops, visit_on, pure_last}
use Rattle.qccd_top.proofs.programs.program_in.Goals as goal

pub returns-in_err-raw : goal.returns-in_err-raw
returns-in_err-raw g c = visit_stops _ _ _ _ _ _ _ _ c.in_err-raw.ensures.visits c.from_residual.ensures.1

pub returns : goal.returns
returns g c = visit_on _ _ _ _ _ _ _ _ _ c.in_ok-raw.ensures.visits (pure_last _ _ _ _ _ c.loaded.ensures)
