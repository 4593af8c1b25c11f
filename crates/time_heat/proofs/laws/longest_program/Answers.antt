use Rattle.time_heat.proofs.Sums.{time_of_all-lt}
use Rattle.time_heat.proofs.laws.longest_program.Goals as goal

pub returns : goal.returns
returns c = time_of_all-lt
