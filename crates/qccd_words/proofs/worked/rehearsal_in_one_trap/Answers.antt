-- By computation.
use Rattle.std.proofs.Common.{refl}
use Rattle.std.specs.Fmt.{digits}
use Rattle.qccd_words.specs.Words.{capacities}
use Rattle.qccd_words.proofs.worked.rehearsal_in_one_trap.Goals as goal

pub returns-clause-four : goal.returns-clause-four
unfolding digits capacities
returns-clause-four c = refl

pub returns-clause-no_qubit : goal.returns-clause-no_qubit
unfolding digits capacities
returns-clause-no_qubit c = refl

pub returns-clause-too_many : goal.returns-clause-too_many
unfolding digits capacities
returns-clause-too_many c = refl

pub returns-clause-too_few : goal.returns-clause-too_few
unfolding digits capacities
returns-clause-too_few c = refl

pub returns-clause-workers : goal.returns-clause-workers
unfolding digits capacities
returns-clause-workers c = refl
