use Rattle.loader.proofs.Written.{one_program}
use Rattle.loader.proofs.laws.loads_one_program.Goals as goal

pub returns : goal.returns
returns c = one_program
