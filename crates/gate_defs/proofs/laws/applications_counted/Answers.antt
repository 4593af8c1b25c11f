use Rattle.gate_defs.proofs.Counting.{application_counted}
use Rattle.gate_defs.proofs.laws.applications_counted.Goals as goal

pub returns : goal.returns
returns c = λ defs cond a are called. application_counted are cond a called
