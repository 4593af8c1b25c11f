-- The name leads to the angles, these to the operands, and these to the end.
use Rattle.std.proofs.Common.{refl, ◌∙◌}
use Rattle.qasm_reader.specs.Named.{shape}
use Rattle.qasm_reader.specs.Code.{known}
use Rattle.qasm_reader.proofs.Leading.{leads_exit, leads_exit_later}
use Rattle.qasm_reader.proofs.gate_statements.gate.Goals as goal

pub returns-in_err-gate-clause-leads : goal.returns-in_err-gate-clause-leads
returns-in_err-gate-clause-leads c = leads_exit _ _ _ _ c.from_residual.ensures.1 (c.in_err-gate.ensures.leads (known c.args.state.now) c.args.cursor.now refl)

pub returns-in_err-angles-clause-leads : goal.returns-in_err-angles-clause-leads
returns-in_err-angles-clause-leads c =
    let k = known c.args.state.now in
    leads_exit_later _ _ _ _ _ c.from_residual-in_err-angles.ensures.1 (c.in_ok-gate.ensures.leads k c.args.cursor.now refl) (c.in_err-angles.ensures.leads k)

pub returns-in_err-operands-clause-leads : goal.returns-in_err-operands-clause-leads
returns-in_err-operands-clause-leads c =
    let k = known c.args.state.now in
    leads_exit_later _ _ _ _ _ c.from_residual-in_err-operands.ensures.1
    (c.in_ok-gate.ensures.leads k c.args.cursor.now refl ∙ c.in_ok-angles.ensures.leads k)
    (c.in_err-operands.ensures.leads (shape c.in_ok-gate.gate) c.in_ok-angles.angles.items)
