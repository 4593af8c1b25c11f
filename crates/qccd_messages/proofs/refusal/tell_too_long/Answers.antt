use Rattle.std.proofs.Common.{◌∙◌, ap, decimal}
use Rattle.qccd_messages.proofs.refusal.tell_too_long.Goals as goal

pub returns : goal.returns
returns g c =
    let first = c.as_bytes.ensures.value ∙ c.deref.ensures.0 ∙ c.number_text-done.ensures ∙ ap decimal c.into.ensures in
    let second = c.as_bytes-2.ensures.value ∙ c.deref-2.ensures.0 ∙ c.number_text-items.ensures ∙ ap decimal c.into-2.ensures in
    let third = c.as_bytes-3.ensures.value ∙ c.deref-3.ensures.0 ∙ c.number_text-ops.ensures ∙ ap decimal c.into-3.ensures in
    rw (← first, ← second, ← third) c.send_all.ensures
