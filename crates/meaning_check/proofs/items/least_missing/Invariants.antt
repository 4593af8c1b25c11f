-- An item is in the program where it was seen, or is still to come.
use Rattle.meaning_check.proofs.Going.{AreSeen}
use Rattle.meaning_check.proofs.items.least_missing.Given as goal

abbrev pub invariant-loop-op : goal.invariant-loop-op
invariant-loop-op l = AreSeen l.count l.ops l.op-index l.seen.items
