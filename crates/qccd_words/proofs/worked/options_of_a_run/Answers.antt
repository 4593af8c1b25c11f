-- By computation.
use Rattle.std.proofs.Common.{refl}
use Rattle.std.specs.Fmt.{digits}
use Rattle.qccd_words.specs.Words.{capacities}
use Rattle.qccd_words.proofs.worked.options_of_a_run.Goals as goal

pub returns-clause-workers : goal.returns-clause-workers
unfolding digits capacities
returns-clause-workers c = refl

pub returns-clause-workers_first : goal.returns-clause-workers_first
unfolding digits capacities
returns-clause-workers_first c = refl

pub returns-clause-mode_first : goal.returns-clause-mode_first
unfolding digits capacities
returns-clause-mode_first c = refl

pub returns-clause-twice : goal.returns-clause-twice
unfolding digits capacities
returns-clause-twice c = refl

pub returns-clause-no_worker : goal.returns-clause-no_worker
unfolding digits capacities
returns-clause-no_worker c = refl

pub returns-clause-too_many : goal.returns-clause-too_many
unfolding digits capacities
returns-clause-too_many c = refl

pub returns-clause-leading_zero : goal.returns-clause-leading_zero
unfolding digits capacities
returns-clause-leading_zero c = refl

pub returns-clause-no_value : goal.returns-clause-no_value
unfolding digits capacities
returns-clause-no_value c = refl

pub returns-clause-circuit : goal.returns-clause-circuit
unfolding digits capacities
returns-clause-circuit c = refl
