-- By computation.
use Rattle.std.proofs.Common.{refl}
use Rattle.std.specs.Fmt.{digits}
use Rattle.qccd_words.specs.Words.{capacities}
use Rattle.qccd_words.proofs.worked.run_in_one_trap.Goals as goal

pub returns-clause-two : goal.returns-clause-two
unfolding digits capacities
returns-clause-two c = refl

pub returns-clause-leading_zero : goal.returns-clause-leading_zero
unfolding digits capacities
returns-clause-leading_zero c = refl

pub returns-clause-by_gates : goal.returns-clause-by_gates
unfolding digits capacities
returns-clause-by_gates c = refl

pub returns-clause-no_value : goal.returns-clause-no_value
unfolding digits capacities
returns-clause-no_value c = refl
