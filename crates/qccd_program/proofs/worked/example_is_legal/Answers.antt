use Rattle.qccd_program.proofs.Examples.{example-legal}
use Rattle.qccd_program.proofs.worked.example_is_legal.Goals as goal

pub returns : goal.returns
returns c = example-legal
