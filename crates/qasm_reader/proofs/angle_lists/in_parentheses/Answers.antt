-- What the parentheses hold leads to the operands.
use Rattle.std.proofs.Common.{◌∙◌, refl, sym, ap, List, ℕ}
use Rattle.qasm_reader.specs.Expected.{Call, call, of_gate, operand}
use Rattle.qasm_reader.specs.Named.{shape}
use Rattle.qasm_reader.specs.Code.{answer_from, behind_paren}
use Rattle.qasm_reader.proofs.Leading.{leads_before, leads_exit}
use Rattle.qasm_reader.proofs.angle_lists.in_parentheses.Goals as goal

pub returns-in_err-rest-clause-leads : goal.returns-in_err-rest-clause-leads
returns-in_err-rest-clause-leads c = λ k. leads_exit _ _ _ _ c.from_residual.ensures.1 (c.in_err-rest.ensures.leads k (call (shape c.args.gate.now)) refl)

pub returns-in-Some-clause-leads : goal.returns-in-Some-clause-leads
returns-in-Some-clause-leads c = λ k.
    let none : Call = call (shape c.args.gate.now) in
    c.in_ok-rest.ensures.leads k none refl ∙ ap (behind_paren k none c.args.cursor.now) c.in-Some.is
    ∙ ap (λ (angles : List (List ℕ)). answer_from k (operand (of_gate (record none { angles = angles }))) c.in-Some.rest) (sym c.new.ensures.items)

pub returns-in-None-clause-leads : goal.returns-in-None-clause-leads
returns-in-None-clause-leads c = λ k.
    let none : Call = call (shape c.args.gate.now) in
    leads_before _ _ _ c.angle_list.result (c.in_ok-rest.ensures.leads k none refl ∙ ap (behind_paren k none c.args.cursor.now) c.in-None.is) (c.angle_list.ensures.leads k)
