use Rattle.machine_text.proofs.Answered.{every_text}
use Rattle.machine_text.proofs.laws.every_text.Goals as goal

pub returns : goal.returns
returns c = every_text
