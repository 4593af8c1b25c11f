use Rattle.dep_graph.specs.Ready.{Follows}
use Rattle.rows_circuit.proofs.ordering.taken_plainly.Given as goal

abbrev pub invariant-loop-turn : goal.invariant-loop-turn
invariant-loop-turn l = Follows l.circuit.items l.ready
