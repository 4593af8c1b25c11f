use Rattle.dep_graph.proofs.LevelLemmas.{levels-reached}
use Rattle.dep_graph.proofs.laws.levels_are_reached.Goals as goal

pub returns : goal.returns
returns c = levels-reached
