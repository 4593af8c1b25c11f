use Rattle.std.proofs.Common.{◌≡◌, option_copied}
use Rattle.transport_asm.specs.Cursor.{words_left, size_left}
use Rattle.transport_asm.specs.Texts.{ions_at}
use Rattle.transport_asm.proofs.LineReading.{with_ions}
use Rattle.transport_asm.proofs.chains.ions_at.Given as goal

abbrev pub invariant-loop-left : goal.invariant-loop-left
invariant-loop-left l = with_ions l.ions.items (ions_at l.few (words_left (option_copied l.left))) ≡ ions_at 256 (words_left (option_copied l.fn.words))

abbrev pub decreases-loop-left : goal.decreases-loop-left
decreases-loop-left l = size_left (option_copied l.left)
