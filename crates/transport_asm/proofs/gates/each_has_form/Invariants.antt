use Rattle.std.proofs.Common.{◌≡◌, option_copied}
use Rattle.std.specs.List.{list_all}
use Rattle.transport_asm.specs.Cursor.{size_left}
use Rattle.transport_asm.specs.Parts.{angles_left}
use Rattle.op_text.specs.Slots.{has_angle_form}
use Rattle.transport_asm.proofs.gates.each_has_form.Given as goal

abbrev pub invariant-loop-left : goal.invariant-loop-left
invariant-loop-left l = list_all has_angle_form (angles_left (option_copied l.left)) ≡ list_all has_angle_form (angles_left (option_copied l.fn.angles))

abbrev pub decreases-loop-left : goal.decreases-loop-left
decreases-loop-left l = size_left (option_copied l.left)
