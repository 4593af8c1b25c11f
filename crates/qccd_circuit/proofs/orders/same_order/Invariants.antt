-- The numbers so far rise, so those from here on decide.
use Rattle.qccd_circuit.proofs.Rising.{Placed}
use Rattle.qccd_circuit.proofs.orders.same_order.Given as goal

abbrev pub invariant-loop-number : goal.invariant-loop-number
invariant-loop-number l = Placed l.items l.listed.items l.marks l.list l.number-index
