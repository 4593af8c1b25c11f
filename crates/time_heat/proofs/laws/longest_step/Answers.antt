use Rattle.time_heat.proofs.Bounds.{duration_of-le}
use Rattle.time_heat.proofs.laws.longest_step.Goals as goal

pub returns : goal.returns
returns c = duration_of-le
