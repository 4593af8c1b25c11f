-- By computation.
use Rattle.std.proofs.Common.{refl}
use Rattle.std.specs.Fmt.{digits}
use Rattle.qccd_words.specs.Words.{capacities}
use Rattle.qccd_words.proofs.worked.machines_named.Goals as goal

pub returns-clause-line : goal.returns-clause-line
unfolding digits capacities
returns-clause-line c = refl

pub returns-clause-two_rows : goal.returns-clause-two_rows
unfolding digits capacities
returns-clause-two_rows c = refl

pub returns-clause-other_name : goal.returns-clause-other_name
unfolding digits capacities
returns-clause-other_name c = refl

pub returns-clause-at_alone : goal.returns-clause-at_alone
unfolding digits capacities
returns-clause-at_alone c = refl

pub returns-clause-file : goal.returns-clause-file
returns-clause-file c = refl

pub returns-clause-no_at : goal.returns-clause-no_at
returns-clause-no_at c = refl

pub returns-clause-empty : goal.returns-clause-empty
returns-clause-empty c = refl
