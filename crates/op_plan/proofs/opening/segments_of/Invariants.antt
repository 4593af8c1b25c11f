use Rattle.std.proofs.Common.{◌≡◌, take}
use Rattle.op_plan.proofs.opening.segments_of.Given as goal

abbrev pub invariant-loop-seg : goal.invariant-loop-seg
invariant-loop-seg l = l.segments.items ≡ take l.seg l.machine.segments
