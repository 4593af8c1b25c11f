use Rattle.dep_graph.specs.Ready.{Follows}
use Rattle.rows_circuit.proofs.ordering.take_each.Given as goal

abbrev pub invariant-loop-number : goal.invariant-loop-number
invariant-loop-number g l = Follows l.circuit.items l.ready
