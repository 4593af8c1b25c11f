use Rattle.qccd_program.proofs.Faithfully.{program-run, program-end}
use Rattle.qccd_program.proofs.laws.faithful_lists_run.Goals as goal

pub returns-clause-run : goal.returns-clause-run
returns-clause-run c = program-run

pub returns-clause-end : goal.returns-clause-end
returns-clause-end c = program-end
