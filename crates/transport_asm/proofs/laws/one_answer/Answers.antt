use Rattle.transport_asm.proofs.Answered.{one_raw, one_refusal, not_both}
use Rattle.transport_asm.proofs.laws.one_answer.Goals as goal

pub returns : goal.returns
returns c = record { raw = one_raw; refusal = one_refusal; not_both = not_both }
