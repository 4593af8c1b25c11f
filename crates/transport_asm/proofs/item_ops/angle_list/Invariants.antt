use Rattle.std.proofs.Common.{◌≡◌, ◌++◌, option_copied}
use Rattle.transport_asm.specs.Cursor.{size_left}
use Rattle.transport_asm.specs.Parts.{angles_left}
use Rattle.transport_asm.proofs.item_ops.angle_list.Given as goal

abbrev pub invariant-loop-left : goal.invariant-loop-left
invariant-loop-left l = l.list.items ++ angles_left (option_copied l.left) ≡ angles_left (option_copied l.fn.angles)

abbrev pub decreases-loop-left : goal.decreases-loop-left
decreases-loop-left l = size_left (option_copied l.left)
