-- By computation.
use Rattle.std.proofs.Common.{refl}
use Rattle.std.specs.Fmt.{digits}
use Rattle.qccd_words.specs.Words.{capacities}
use Rattle.qccd_words.proofs.worked.options_of_the_others.Goals as goal

pub returns-clause-exec : goal.returns-clause-exec
unfolding digits capacities
returns-clause-exec c = refl

pub returns-clause-exec_swap : goal.returns-clause-exec_swap
unfolding digits capacities
returns-clause-exec_swap c = refl

pub returns-clause-compile_workers : goal.returns-clause-compile_workers
unfolding digits capacities
returns-clause-compile_workers c = refl

pub returns-clause-check_workers : goal.returns-clause-check_workers
unfolding digits capacities
returns-clause-check_workers c = refl
