use Rattle.machine_text.proofs.Answered.{one_parts}
use Rattle.machine_text.proofs.laws.one_machine.Goals as goal

pub returns : goal.returns
returns c = λ text m n first second. one_parts text m n first.description second.description
