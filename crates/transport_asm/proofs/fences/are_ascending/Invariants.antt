use Rattle.std.proofs.Common.{◌≡◌, length}
use Rattle.op_table.specs.Op.{are_ascending}
use Rattle.transport_asm.proofs.fences.are_ascending.Given as goal

abbrev pub invariant-loop-left : goal.invariant-loop-left
invariant-loop-left l = are_ascending l.left ≡ are_ascending l.fn.traps

abbrev pub decreases-loop-left : goal.decreases-loop-left
decreases-loop-left l = length l.left
