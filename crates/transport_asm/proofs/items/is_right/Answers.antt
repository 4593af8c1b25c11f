use Rattle.std.proofs.Common.{sym, ◌∙◌}
use Rattle.transport_asm.specs.Parts.{head_of, tail_of}
use Rattle.transport_asm.proofs.ItemReading.{right_bare, none_left}
use Rattle.transport_asm.proofs.items.is_right.Goals as goal

pub returns-then-is_bare : goal.returns-then-is_bare
returns-then-is_bare c =
    none_left c.args.head.gate.angles c.is_none.result c.is_none.ensures ∙ sym (right_bare (head_of c.args.head) (tail_of c.args.tail) (sym c.is_bare.ensures ∙ c.if-is_bare.true))
