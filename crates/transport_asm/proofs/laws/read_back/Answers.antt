use Rattle.transport_asm.proofs.TextLaws.{text_again}
use Rattle.transport_asm.proofs.Rule.{raw_fitting}
use Rattle.transport_asm.proofs.laws.read_back.Goals as goal

pub returns : goal.returns
returns c = λ raw is. text_again raw (raw_fitting raw is)
