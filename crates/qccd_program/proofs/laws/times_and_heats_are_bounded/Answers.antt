use Rattle.qccd_program.proofs.Bounded.{times-bounded, heats-bounded}
use Rattle.qccd_program.proofs.laws.times_and_heats_are_bounded.Goals as goal

pub returns-clause-times : goal.returns-clause-times
returns-clause-times c = times-bounded

pub returns-clause-heats : goal.returns-clause-heats
returns-clause-heats c = heats-bounded
