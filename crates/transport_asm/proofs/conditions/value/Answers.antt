-- A word of digits that is the text of no number of 128 bits writes one outside.
use Rattle.std.proofs.Common.{ℕ, List, sym, ◌∙◌, ap, arith}
use Rattle.op_text.specs.Slots.{value_slot, greatest_value}
use Rattle.transport_asm.proofs.Numbers.{number_again, refused_digits}
use Rattle.transport_asm.proofs.conditions.value.Goals as goal

pub returns-in-Some : goal.returns-in-Some
returns-in-Some c =
    let range = rw c.in-Some.is at c.read_wide.type_inv in
    sym (ap (λ (w : List ℕ). value_slot.read w) c.in-Some.ensures.some ∙ number_again greatest_value c.in-Some.n (omega arith) (omega (arith, range.1.1.1.1.0.1)))

pub returns-in-None : goal.returns-in-None
returns-in-None c =
    sym (refused_digits greatest_value c.args.word.now (omega arith) (sym c.are_digits.ensures ∙ c.if-are_digits.true) (λ n le. c.in-None.ensures.none n (omega (arith, le))))
