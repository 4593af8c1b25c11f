use Rattle.std.proofs.Common.{◌≡◌, option_copied}
use Rattle.transport_asm.specs.Cursor.{words_left, size_left}
use Rattle.transport_asm.specs.Marks.{traps_at, traps_behind}
use Rattle.transport_asm.proofs.FenceReading.{with_traps}
use Rattle.transport_asm.proofs.fences.traps_behind.Given as goal

abbrev pub invariant-loop-left : goal.invariant-loop-left
invariant-loop-left l = with_traps l.traps.items (traps_at (words_left (option_copied l.left))) ≡ traps_behind l.fn.first (words_left (option_copied l.fn.words))

abbrev pub decreases-loop-left : goal.decreases-loop-left
decreases-loop-left l = size_left (option_copied l.left)
