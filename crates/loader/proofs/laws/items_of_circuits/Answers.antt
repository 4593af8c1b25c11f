use Rattle.loader.proofs.Written.{plain_program}
use Rattle.loader.proofs.laws.items_of_circuits.Goals as goal

pub returns : goal.returns
returns c = plain_program
