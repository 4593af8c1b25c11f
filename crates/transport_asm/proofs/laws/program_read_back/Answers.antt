use Rattle.transport_asm.specs.ProgramText.{program_text, spelled}
use Rattle.transport_asm.proofs.TextLaws.{text_again}
use Rattle.transport_asm.proofs.Rule.{raw_fitting}
use Rattle.transport_asm.proofs.laws.program_read_back.Goals as goal

pub returns : goal.returns
unfolding program_text
returns c = λ p is. text_again (spelled p) (raw_fitting (spelled p) is)
