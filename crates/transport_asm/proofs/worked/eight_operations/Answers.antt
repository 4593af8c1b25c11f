use Rattle.std.proofs.Common.{refl}
use Rattle.std.specs.Fmt.{digits}
use Rattle.transport_asm.specs.Texts.{read_text, raw_text}
use Rattle.transport_asm.specs.Example.{compiled}
use Rattle.transport_asm.proofs.worked.eight_operations.Goals as goal

pub returns-clause-read : goal.returns-clause-read
unfolding read_text compiled
returns-clause-read c = refl

pub returns-clause-written : goal.returns-clause-written
unfolding raw_text compiled digits
returns-clause-written c = refl
