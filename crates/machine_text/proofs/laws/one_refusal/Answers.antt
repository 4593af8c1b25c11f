use Rattle.machine_text.proofs.Answered.{one_refusal}
use Rattle.machine_text.proofs.laws.one_refusal.Goals as goal

pub returns : goal.returns
returns c = one_refusal
