use Rattle.transport_asm.proofs.Answered.{op_read_back}
use Rattle.transport_asm.proofs.Rule.{fitting}
use Rattle.transport_asm.proofs.laws.op_read_back.Goals as goal

pub returns : goal.returns
returns c = λ op is. op_read_back op (fitting op is)
