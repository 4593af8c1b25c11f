-- By computation.
use Rattle.std.proofs.Common.{refl}
use Rattle.std.specs.Fmt.{digits}
use Rattle.qccd_words.specs.Words.{capacities}
use Rattle.qccd_words.proofs.worked.tidying_on_a_line.Goals as goal

pub returns-clause-whole : goal.returns-clause-whole
unfolding digits capacities
returns-clause-whole c = refl

pub returns-clause-no_machine : goal.returns-clause-no_machine
unfolding digits capacities
returns-clause-no_machine c = refl
