use Rattle.qccd_top.proofs.Chain.{visit_stops, visit_on, pure_last}
use Rattle.qccd_top.proofs.Loaded.{viewed_err}
use Rattle.qccd_top.proofs.programs.raw_in.Goals as goal

pub returns-in_err-text-clause-visits : goal.returns-in_err-text-clause-visits
returns-in_err-text-clause-visits g c = visit_stops _ _ _ _ _ _ _ _ c.in_err-text.ensures (viewed_err _ _ _ c.from_residual.ensures.1)

pub returns-clause-visits : goal.returns-clause-visits
returns-clause-visits g c =
    visit_on _ _ _ _ _ _ _ _ _ c.in_ok-text.ensures (pure_last _ _ _ _ _ (rw c.as_slice.ensures.value at c.raw_of.ensures.answer))
