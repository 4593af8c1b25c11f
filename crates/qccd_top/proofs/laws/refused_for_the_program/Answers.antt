use Rattle.qccd_top.proofs.Stopping.{program_refuses}
use Rattle.qccd_top.proofs.laws.refused_for_the_program.Goals as goal

pub returns : goal.returns
returns c = program_refuses
