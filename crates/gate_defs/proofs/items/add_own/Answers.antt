use Rattle.std.proofs.Common.{◌≡◌, ℕ, List, sym, ap, ◌∙◌, subst, length}
use Rattle.std.proofs.lemmas.List.{get_or_default}
use Rattle.qccd_circuit.specs.Item.{Fits}
use Rattle.gate_defs.specs.declared.kinds.Callee.{Callee}
use Rattle.gate_defs.specs.declared.kinds.Callee.TheVariants.{Plain, Defined}
use Rattle.gate_defs.specs.declared.kinds.Def.{Def}
use Rattle.gate_defs.specs.Items.{gate_on}
use Rattle.gate_defs.specs.Meaning.{def_at, texts, unnamed}
use Rattle.gate_defs.specs.Rule.{IsCalled}
use Rattle.gate_defs.proofs.Fitting.{opaque_fits, plain_fits}
use Rattle.gate_defs.proofs.items.add_own.Goals as goal

pub add_gate-requires : goal.add_gate-requires
add_gate-requires c =
    let name = c.as_slice.result.now in
    let called : IsCalled c.args.defs.now (Plain name) (length c.args.args.now) (length c.args.qubits.now) =
    subst (λ (callee : Callee). IsCalled c.args.defs.now callee (length c.args.args.now) (length c.args.qubits.now))
    (c.in-Plain.is ∙ ap (λ (n : List ℕ). Plain n) (sym c.as_slice.ensures)) c.requires.called in
    plain_fits name c.args.args.now c.args.qubits.now c.args.cond called c.requires.are_args c.requires.distinct c.requires.condition

pub add_gate-requires-in-None : goal.add_gate-requires-in-None
add_gate-requires-in-None c =
    let defs = c.args.defs.now in
    let id = c.in-Defined.id in
    let args = c.args.args.now in
    let on = c.args.qubits.now in
    let called : IsCalled defs (Defined id) (length args) (length on) =
    subst (λ (callee : Callee). IsCalled defs callee (length args) (length on)) c.in-Defined.is c.requires.called in
    let same : c.index-defs-id.result ≡ def_at defs id = c.index-defs-id.is ∙ get_or_default defs id _ unnamed called.0 in
    subst (λ (name : List ℕ). Fits (gate_on name (texts args) on c.args.cond)) (sym (c.as_slice-in-None.ensures ∙ ap (λ (d : Def). d.name) same))
    (opaque_fits c.requires.are_defs id args on c.args.cond (sym (ap (λ (d : Def). d.body) same) ∙ c.in-None.is) called.0 called.1 called.2 called.3
    c.requires.are_args c.requires.distinct c.requires.condition)
