use Rattle.qasm_reader.proofs.LongAngle.{refused_there}
use Rattle.qasm_reader.proofs.worked.long_angle.Goals as goal

pub returns : goal.returns
returns c = refused_there
