use Rattle.std.proofs.Common.{refl}
use Rattle.transport_asm.specs.Texts.{read_text}
use Rattle.transport_asm.specs.Example.{cut, counted, of_version, without_end, following}
use Rattle.transport_asm.proofs.worked.refused_texts.Goals as goal

pub returns-clause-empty : goal.returns-clause-empty
unfolding read_text
returns-clause-empty c = refl

pub returns-clause-version : goal.returns-clause-version
unfolding read_text of_version
returns-clause-version c = refl

pub returns-clause-wide : goal.returns-clause-wide
unfolding read_text of_version
returns-clause-wide c = refl

pub returns-clause-led : goal.returns-clause-led
unfolding read_text of_version
returns-clause-led c = refl

pub returns-clause-trailing : goal.returns-clause-trailing
unfolding read_text of_version
returns-clause-trailing c = refl

pub returns-clause-further : goal.returns-clause-further
unfolding read_text of_version
returns-clause-further c = refl

pub returns-clause-name : goal.returns-clause-name
unfolding read_text of_version
returns-clause-name c = refl

pub returns-clause-missing : goal.returns-clause-missing
unfolding read_text of_version
returns-clause-missing c = refl

pub returns-clause-zero : goal.returns-clause-zero
unfolding read_text counted
returns-clause-zero c = refl

pub returns-clause-many : goal.returns-clause-many
unfolding read_text counted
returns-clause-many c = refl

pub returns-clause-few : goal.returns-clause-few
unfolding read_text counted
returns-clause-few c = refl

pub returns-clause-more : goal.returns-clause-more
unfolding read_text counted
returns-clause-more c = refl

pub returns-clause-cut : goal.returns-clause-cut
unfolding read_text cut
returns-clause-cut c = refl

pub returns-clause-no_end : goal.returns-clause-no_end
unfolding read_text without_end
returns-clause-no_end c = refl

pub returns-clause-behind : goal.returns-clause-behind
unfolding read_text following
returns-clause-behind c = refl
