use Rattle.dep_graph.proofs.Rounds.{ready-level}
use Rattle.dep_graph.proofs.laws.a_level_is_ready.Goals as goal

pub returns : goal.returns
returns c = ready-level
