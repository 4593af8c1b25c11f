use Rattle.std.proofs.Common.{refl}
use Rattle.qccd_top.proofs.Chain.{visit_stops, visit_on, pure_stops, pure_on, just_last}
use Rattle.qccd_top.proofs.programs.checked_in.Goals as goal

pub returns-in_err-machine : goal.returns-in_err-machine
returns-in_err-machine g c = visit_stops _ _ _ _ _ _ _ _ c.in_err-machine.ensures c.from_residual.ensures.1

pub returns-in_err-circuit : goal.returns-in_err-circuit
returns-in_err-circuit g c =
    visit_on _ _ _ _ _ _ _ _ _ c.in_ok-machine.ensures (visit_stops _ _ _ _ _ _ _ _ c.in_err-circuit.ensures c.from_residual-in_err-circuit.ensures.1)

pub returns-in_err-program : goal.returns-in_err-program
returns-in_err-program g c =
    visit_on _ _ _ _ _ _ _ _ _ c.in_ok-machine.ensures
    (visit_on _ _ _ _ _ _ _ _ _ c.in_ok-circuit.ensures
    (visit_stops _ _ _ _ _ _ _ _ c.in_err-program.ensures c.from_residual-in_err-program.ensures.1))

pub returns-in_err-same_as : goal.returns-in_err-same_as
returns-in_err-same_as g c =
    visit_on _ _ _ _ _ _ _ _ _ c.in_ok-machine.ensures
    (visit_on _ _ _ _ _ _ _ _ _ c.in_ok-circuit.ensures
    (visit_on _ _ _ _ _ _ _ _ _ c.in_ok-program.ensures
    (pure_stops _ _ _ _ _ _ _ c.in_err-same_as.ensures c.from_residual-in_err-same_as.ensures.1)))

pub returns : goal.returns
returns g c =
    visit_on _ _ _ _ _ _ _ _ _ c.in_ok-machine.ensures
    (visit_on _ _ _ _ _ _ _ _ _ c.in_ok-circuit.ensures
    (visit_on _ _ _ _ _ _ _ _ _ c.in_ok-program.ensures
    (pure_on _ _ _ _ _ _ _ _ c.in_ok-same_as.ensures (just_last _ _ _ _ _ refl))))
