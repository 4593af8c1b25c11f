use Rattle.std.proofs.Common.{◌∙◌, ap, decimal}
use Rattle.qccd_messages.proofs.refusal.tell_too_large.Goals as goal

pub returns : goal.returns
returns g c =
    let first = c.as_bytes.ensures.value in
    let second = c.as_bytes-2.ensures.value ∙ c.deref.ensures.0 ∙ c.number_text-limit.ensures ∙ ap decimal c.into.ensures in
    rw (← first, ← second) c.send_all.ensures
