use Rattle.transport_asm.proofs.TextLaws.{text_takes}
use Rattle.transport_asm.proofs.Rule.{raw_writable}
use Rattle.transport_asm.proofs.laws.one_text.Goals as goal

pub returns : goal.returns
returns c = λ text raw e. let t = text_takes text raw e in (t.0, raw_writable raw t.1)
