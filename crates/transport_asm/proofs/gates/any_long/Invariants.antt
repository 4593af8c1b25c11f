use Rattle.std.proofs.Common.{◌≡◌, option_copied}
use Rattle.std.specs.List.{list_any}
use Rattle.transport_asm.specs.Cursor.{size_left}
use Rattle.transport_asm.specs.Parts.{angles_left}
use Rattle.op_text.specs.Slots.{is_long_angle}
use Rattle.transport_asm.proofs.gates.any_long.Given as goal

abbrev pub invariant-loop-left : goal.invariant-loop-left
invariant-loop-left l = list_any is_long_angle (angles_left (option_copied l.left)) ≡ list_any is_long_angle (angles_left (option_copied l.fn.angles))

abbrev pub decreases-loop-left : goal.decreases-loop-left
decreases-loop-left l = size_left (option_copied l.left)
