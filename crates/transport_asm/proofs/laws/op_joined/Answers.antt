use Rattle.transport_asm.proofs.Answered.{op_text-line}
use Rattle.transport_asm.proofs.laws.op_joined.Goals as goal

pub returns : goal.returns
returns c = op_text-line
