use Rattle.transport_asm.proofs.Answered.{every_text}
use Rattle.transport_asm.proofs.laws.every_text.Goals as goal

pub returns : goal.returns
returns c = every_text
