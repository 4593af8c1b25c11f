-- Each piece leads on from where the one before it stood.
use Rattle.std.proofs.Common.{◌∙◌, sym, subst}
use Rattle.qasm_reader.specs.Known.{with_register}
use Rattle.qasm_reader.specs.Expected.{ends, register_size}
use Rattle.qasm_reader.specs.Code.{known}
use Rattle.qasm_reader.specs.Sound.{IsSound}
use Rattle.qasm_reader.proofs.Rule.{with_register_sound}
use Rattle.qasm_reader.proofs.Leading.{leads_exit, leads_exit_later}
use Rattle.qasm_reader.proofs.registers.register.Goals as goal

pub returns-in_err-name-clause-leads : goal.returns-in_err-name-clause-leads
returns-in_err-name-clause-leads c = leads_exit _ _ _ _ c.from_residual.ensures.1 (c.in_err-name.ensures.leads c.args.kind)

pub returns-in_err-rest-clause-leads : goal.returns-in_err-rest-clause-leads
returns-in_err-rest-clause-leads c =
    leads_exit_later _ _ _ _ _ c.from_residual-in_err-rest.ensures.1 (c.in_ok-name.ensures.leads c.args.kind)
    (c.in_err-rest.ensures.leads (known c.args.state.now) (register_size c.args.kind c.in_ok-name.name.now))

pub returns-in_err-size-clause-leads : goal.returns-in_err-size-clause-leads
returns-in_err-size-clause-leads c =
    let k = known c.args.state.now in
    let name = c.in_ok-name.name.now in
    leads_exit_later _ _ _ _ _ c.from_residual-in_err-size.ensures.1
    (c.in_ok-name.ensures.leads c.args.kind ∙ c.in_ok-rest.ensures.leads k (register_size c.args.kind name))
    (c.in_err-size.ensures.leads name)

pub returns-in_err-rest-2-clause-leads : goal.returns-in_err-rest-2-clause-leads
returns-in_err-rest-2-clause-leads c =
    let k = known c.args.state.now in
    let name = c.in_ok-name.name.now in
    leads_exit_later _ _ _ _ _ c.from_residual-in_err-rest-2.ensures.1
    (c.in_ok-name.ensures.leads c.args.kind ∙ c.in_ok-rest.ensures.leads k (register_size c.args.kind name) ∙ c.in_ok-size.ensures.leads name)
    (c.in_err-rest-2.ensures.leads k (ends (with_register k c.args.kind name c.in_ok-size.size)))

pub returns-in_err-rest-3-clause-leads : goal.returns-in_err-rest-3-clause-leads
returns-in_err-rest-3-clause-leads c =
    let k = known c.args.state.now in
    let name = c.in_ok-name.name.now in
    let next = with_register k c.args.kind name c.in_ok-size.size in
    leads_exit_later _ _ _ _ _ c.from_residual-in_err-rest-3.ensures.1
    (c.in_ok-name.ensures.leads c.args.kind ∙ c.in_ok-rest.ensures.leads k (register_size c.args.kind name) ∙ c.in_ok-size.ensures.leads name
    ∙ c.in_ok-rest-2.ensures.leads k (ends next))
    (c.in_err-rest-3.ensures.leads k next)

pub returns-clause-sound : goal.returns-clause-sound
returns-clause-sound c =
    let size = c.in_ok-size in
    subst IsSound (sym c.in_ok-declare.ensures) (with_register_sound (known c.args.state.now) c.args.kind c.in_ok-from_slice.field-0.items size.size c.requires size.ensures.some size.ensures.size)
