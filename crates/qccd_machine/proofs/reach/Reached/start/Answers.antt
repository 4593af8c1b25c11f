use Rattle.qccd_machine.proofs.Paths.{only_first}
use Rattle.qccd_machine.proofs.reach.Reached.start.Goals as goal

pub returns-clause-only : goal.returns-clause-only
returns-clause-only c = only_first
