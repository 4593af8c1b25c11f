use Rattle.std.proofs.Common.{◌==◌, refl}
use Rattle.transport_asm.proofs.Cut.{has_word}
use Rattle.transport_asm.proofs.words.is_end.Goals as goal

pub returns-in-Some : goal.returns-in-Some
returns-in-Some c = rw (c.in-Some.is, has_word (λ b. b == 32) c.in-Some.field-0.now) refl
