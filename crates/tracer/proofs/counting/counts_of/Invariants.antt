use Rattle.std.proofs.Common.{take}
use Rattle.tracer.specs.Counted.{Tallied}
use Rattle.tracer.proofs.counting.counts_of.Given as goal

abbrev pub invariant-loop-op : goal.invariant-loop-op
invariant-loop-op l = Tallied (take l.op-index l.ops) l.counts
