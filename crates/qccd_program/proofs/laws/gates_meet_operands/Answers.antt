use Rattle.qccd_program.proofs.Meets.{run-meets}
use Rattle.qccd_program.proofs.laws.gates_meet_operands.Goals as goal

pub returns : goal.returns
returns c = run-meets
