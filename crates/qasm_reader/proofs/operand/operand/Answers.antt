use Rattle.qasm_reader.specs.Code.{known}
use Rattle.qasm_reader.proofs.Leading.{leads_exit, leads_exit_later}
use Rattle.qasm_reader.proofs.operand.operand.Goals as goal

pub returns-in_err-at-clause-leads : goal.returns-in_err-at-clause-leads
returns-in_err-at-clause-leads c = λ role wanted lacking. leads_exit _ _ _ _ c.from_residual.ensures.1 (c.in_err-at.ensures.leads role wanted lacking)

pub returns-in_err-operand-clause-leads : goal.returns-in_err-operand-clause-leads
returns-in_err-operand-clause-leads c = λ role wanted lacking.
    leads_exit_later _ _ _ _ _ c.from_residual-in_err-operand.ensures.1 (c.in_ok-at.ensures.leads role wanted lacking)
    (c.in_err-operand.ensures.leads (known c.args.state.now) role c.in_ok-at.at)
