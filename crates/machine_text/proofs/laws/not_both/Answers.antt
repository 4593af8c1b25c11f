use Rattle.machine_text.proofs.Answered.{not_both}
use Rattle.machine_text.proofs.laws.not_both.Goals as goal

pub returns : goal.returns
returns c = not_both
