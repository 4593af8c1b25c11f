use Rattle.std.proofs.Common.{refl}
use Rattle.transport_asm.specs.Texts.{read_text, raw_text}
use Rattle.transport_asm.specs.Example.{with_head}
use Rattle.std.specs.Fmt.{digits}
use Rattle.transport_asm.proofs.worked.modes.Goals as goal

pub returns-clause-ion : goal.returns-clause-ion
unfolding read_text with_head
returns-clause-ion c = refl

pub returns-clause-gate : goal.returns-clause-gate
unfolding read_text with_head
returns-clause-gate c = refl

pub returns-clause-none : goal.returns-clause-none
unfolding read_text with_head
returns-clause-none c = refl

pub returns-clause-written : goal.returns-clause-written
unfolding raw_text with_head digits
returns-clause-written c = refl

pub returns-clause-lacking : goal.returns-clause-lacking
unfolding read_text with_head
returns-clause-lacking c = refl

pub returns-clause-of_another : goal.returns-clause-of_another
unfolding read_text with_head
returns-clause-of_another c = refl

pub returns-clause-of_none : goal.returns-clause-of_none
unfolding read_text with_head
returns-clause-of_none c = refl

pub returns-clause-of_two : goal.returns-clause-of_two
unfolding read_text with_head
returns-clause-of_two c = refl

pub returns-clause-in_the_first : goal.returns-clause-in_the_first
unfolding read_text with_head
returns-clause-in_the_first c = refl

pub returns-clause-led : goal.returns-clause-led
unfolding read_text with_head
returns-clause-led c = refl

pub returns-clause-trailing : goal.returns-clause-trailing
unfolding read_text with_head
returns-clause-trailing c = refl

pub returns-clause-behind : goal.returns-clause-behind
unfolding read_text with_head
returns-clause-behind c = refl
