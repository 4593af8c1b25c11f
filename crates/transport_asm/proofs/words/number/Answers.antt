use Rattle.std.proofs.Common.{ℕ, List, sym, ◌∙◌, ap, arith}
use Rattle.op_text.specs.Slots.{number_slot}
use Rattle.transport_asm.proofs.Numbers.{number_again, refused_digits}
use Rattle.transport_asm.proofs.words.number.Goals as goal

pub returns-in-Some : goal.returns-in-Some
returns-in-Some c =
    sym (ap (λ (w : List ℕ). (number_slot c.args.most).read w) (c.in-Some.ensures.some).0 ∙ number_again c.args.most c.in-Some.n (omega (arith, c.ranges.most)) (c.in-Some.ensures.some).1)

pub returns-in-None : goal.returns-in-None
returns-in-None c =
    sym (refused_digits c.args.most c.args.word.now (omega (arith, c.ranges.most)) (sym c.are_digits.ensures ∙ c.if-are_digits.true) (λ n le. c.in-None.ensures.none n le))
