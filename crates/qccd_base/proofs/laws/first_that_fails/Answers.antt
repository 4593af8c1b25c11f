use Rattle.qccd_base.proofs.FirstFailing.{all_met, none_fails, failing_behind}
use Rattle.qccd_base.proofs.laws.first_that_fails.Goals as goal

pub returns-clause-none : goal.returns-clause-none
returns-clause-none g c = λ tests. (all_met tests, none_fails tests)

pub returns-clause-first : goal.returns-clause-first
returns-clause-first g c = λ front back cause met. failing_behind front back cause met
