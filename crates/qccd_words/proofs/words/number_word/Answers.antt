-- The number is in the range, and the word is its text.
use Rattle.std.proofs.Common.{◌≤◌, ◌<◌, ◌^◌, sym, ◌∙◌, arith}
use Rattle.std.proofs.lemmas.Bool.Decides.{nat_tests}
use Rattle.qccd_words.proofs.Capacities.{named}
use Rattle.qccd_words.proofs.words.number_word.Goals as goal

pub returns-then-number-high-clause-named : goal.returns-then-number-high-clause-named
returns-then-number-high-clause-named c =
    let above : c.args.low ≤ c.in_ok-number.number = grind (arith, nat_tests) in
    let below : c.in_ok-number.number ≤ c.args.high = grind (arith, nat_tests) in
    let small : c.in_ok-number.number < 2 ^ 64 = omega arith in
    named c.args.low c.args.high c.in_ok-number.number c.args.word.now small
    (sym c.as_bytes.ensures.value ∙ c.in_ok-number.ensures.some) above below
