use Rattle.op_plan.proofs.Agreeing.{effect_agrees, why_agrees}
use Rattle.op_plan.proofs.laws.same_whatever_the_times.Goals as goal

pub returns-clause-causes : goal.returns-clause-causes
returns-clause-causes c = why_agrees

pub returns-clause-state : goal.returns-clause-state
returns-clause-state c = effect_agrees
