use Rattle.dep_graph.proofs.LevelLemmas.{levels-rise}
use Rattle.dep_graph.proofs.laws.levels_rise.Goals as goal

pub returns : goal.returns
returns c = levels-rise
