use Rattle.std.proofs.Common.{sym, ap, ◌∙◌}
use Rattle.std.proofs.lemmas.Option.{IfSome_then}
use Rattle.op_text.specs.Slots.{is_closed, without_last}
use Rattle.transport_asm.proofs.GateReading.{limit_is, form_is, no_form}
use Rattle.transport_asm.proofs.gates.gate.Goals as goal

pub returns-then-not-has_form : goal.returns-then-not-has_form
returns-then-not-has_form c =
    let word = c.args.word.now in
    let split = c.split_name-has_parenthesis in
    let inner = c.closed-angles.result in
    let closed = c.closed-angles.ensures.is ∙ ap is_closed split.ensures.behind in
    let what = IfSome_then inner c.closed-angles.ensures.inner (λ x e. e ∙ ap without_last split.ensures.behind) in
    let limit = sym (limit_is word split.result.0.now inner split.ensures.name closed what) ∙ sym c.passes_limit.ensures ∙ c.if-passes_limit.false in
    let form = sym (form_is word split.result.0.now split.result.1 inner split.ensures.name split.ensures.has closed what) ∙ sym c.has_form.ensures ∙ c.if-not-has_form.true in
    no_form word limit form
