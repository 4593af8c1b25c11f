use Rattle.op_plan.proofs.Cold.{content_cold}
use Rattle.op_plan.proofs.laws.cold_holds_the_same.Goals as goal

pub returns : goal.returns
returns c = content_cold
