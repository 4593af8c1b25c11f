-- Each piece leads on from where the one before it stood.
use Rattle.std.proofs.Common.{refl, ◌∙◌}
use Rattle.qasm_reader.specs.Expected.{of_left, of_right, operand}
use Rattle.qasm_reader.specs.Code.{known}
use Rattle.qasm_reader.proofs.Leading.{leads_exit, leads_exit_later}
use Rattle.qasm_reader.proofs.statements.measure.Goals as goal

pub returns-in_err-left-clause-leads : goal.returns-in_err-left-clause-leads
returns-in_err-left-clause-leads c = leads_exit _ _ _ _ c.from_residual.ensures.1 (c.in_err-left.ensures.leads of_left refl refl)

pub returns-in_err-rest-clause-leads : goal.returns-in_err-rest-clause-leads
returns-in_err-rest-clause-leads c =
    leads_exit_later _ _ _ _ _ c.from_residual-in_err-rest.ensures.1 (c.in_ok-left.ensures.leads of_left refl refl)
    (c.in_err-rest.ensures.leads (known c.args.state.now) (operand (of_right c.in_ok-left.left)))

pub returns-in_err-at-clause-leads : goal.returns-in_err-at-clause-leads
returns-in_err-at-clause-leads c =
    let right = of_right c.in_ok-left.left in
    leads_exit_later _ _ _ _ _ c.from_residual-in_err-at.ensures.1
    (c.in_ok-left.ensures.leads of_left refl refl ∙ c.in_ok-rest.ensures.leads (known c.args.state.now) (operand right)) (c.in_err-at.ensures.leads right refl refl)
