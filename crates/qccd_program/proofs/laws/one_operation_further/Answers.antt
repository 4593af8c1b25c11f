use Rattle.qccd_program.proofs.Stepping.{may-run, ran-next}
use Rattle.qccd_program.proofs.laws.one_operation_further.Goals as goal

pub returns-clause-may : goal.returns-clause-may
returns-clause-may c = may-run

pub returns-clause-next : goal.returns-clause-next
returns-clause-next c = ran-next
