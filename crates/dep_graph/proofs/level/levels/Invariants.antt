-- The levels so far, and the marks of the items so far.
use Rattle.dep_graph.proofs.LevelLemmas.{Found}
use Rattle.dep_graph.proofs.level.levels.Given as goal

abbrev pub invariant-loop-item : goal.invariant-loop-item
invariant-loop-item l = Found l.items l.found.items l.marks l.item-index
