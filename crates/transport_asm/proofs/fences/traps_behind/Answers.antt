use Rattle.std.proofs.Common.{option_copied, sym, ◌∙◌}
use Rattle.transport_asm.specs.Cursor.{words_left}
use Rattle.transport_asm.specs.Marks.{traps_behind}
use Rattle.transport_asm.proofs.FenceReading.{trap_more}
use Rattle.transport_asm.proofs.fences.traps_behind.Goals as goal

pub loop-left-preserved : goal.loop-left-preserved
loop-left-preserved c = rw c.in_ok-push-2.ensures.items (trap_more c.in_ok-trap.trap (words_left (option_copied c.loop-left.left)) (words_left (option_copied c.in_ok-trap.rest)) c.loop-left.traps.items (traps_behind c.args.first (words_left (option_copied c.args.words))) (sym c.begins_trap.ensures ∙ c.loop-left-test.true) c.in_ok-trap.ensures.exact c.loop-left.invariant)
