-- The pieces lead on, one after another; and where no bracket follows, the register is the operand.
use Rattle.std.proofs.Common.{◌∙◌, length}
use Rattle.qasm_reader.specs.Code.{ahead}
use Rattle.qasm_reader.proofs.Leading.{leads_exit_later}
use Rattle.qasm_reader.proofs.Whole.{whole_done}
use Rattle.qasm_reader.proofs.operand.operand_tail.Goals as goal

pub returns-in_err-index-in-Some-clause-leads : goal.returns-in_err-index-in-Some-clause-leads
returns-in_err-index-in-Some-clause-leads c = λ k role at.
    leads_exit_later _ _ _ _ _ c.from_residual.ensures.1 (c.in-Some.ensures.found k role at c.args.register.now) (c.in_err-index-in-Some.ensures.leads k role at)

pub returns-in_err-rest-in-Some-clause-leads : goal.returns-in_err-rest-in-Some-clause-leads
returns-in_err-rest-in-Some-clause-leads c = λ k role at.
    leads_exit_later _ _ _ _ _ c.from_residual-in_err-rest-in-Some.ensures.1
    (c.in-Some.ensures.found k role at c.args.register.now ∙ c.in_ok-index-in-Some.ensures.leads k role at)
    (c.in_err-rest-in-Some.ensures.leads k role at)

pub returns-in-None-clause-leads : goal.returns-in-None-clause-leads
returns-in-None-clause-leads c = λ k role at.
    let cursor = c.args.cursor.now in whole_done (length cursor.text.now) k role at c.args.register.now (ahead cursor) c.in-None.ensures.none
