use Rattle.transport_asm.proofs.Answered.{op_one_text}
use Rattle.transport_asm.proofs.Rule.{writable}
use Rattle.transport_asm.proofs.laws.op_one_text.Goals as goal

pub returns : goal.returns
returns c = λ text op e. let t = op_one_text text op e in (t.0, writable op t.1)
