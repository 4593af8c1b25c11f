use Rattle.time_heat.proofs.Sums.{heating_of_all-lt}
use Rattle.time_heat.proofs.laws.hottest_program.Goals as goal

pub returns : goal.returns
returns c = heating_of_all-lt
