use Rattle.std.proofs.Common.{length, sym, ◌∙◌}
use Rattle.transport_asm.proofs.LineReading.{follows, some_left}
use Rattle.transport_asm.proofs.lines.ended.Goals as goal

pub returns-else-is_empty : goal.returns-else-is_empty
returns-else-is_empty c = rw c.refused.ensures (follows c.args.lines.number c.args.lines.rest.now (some_left (length c.args.lines.rest.now) (sym c.is_empty.ensures ∙ c.if-is_empty.false)))
