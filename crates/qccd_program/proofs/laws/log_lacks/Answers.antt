use Rattle.qccd_program.proofs.MeetsCells.{log-left}
use Rattle.qccd_program.proofs.laws.log_lacks.Goals as goal

pub returns : goal.returns
returns c = log-left
