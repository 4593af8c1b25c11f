-- Digits alone are the longest token where neither a point nor an exponent stands behind them.
use Rattle.std.proofs.Common.{sym, ◌∙◌}
use Rattle.qasm_lex.proofs.FrontLemmas.{int_at_front, int_begins, no_int_exponent, no_int_point}
use Rattle.qasm_lex.proofs.numbers.int_len.Goals as goal

pub returns-then-begins_with-clause-none : goal.returns-then-begins_with-clause-none
returns-then-begins_with-clause-none c = λ len.
    no_int_point c.args.text.now c.digits_len-digits.result len (sym c.begins_digit.ensures ∙ c.if-not-begins_digit.false) c.digits_len-digits.ensures
    (sym c.begins_with.ensures ∙ c.if-begins_with.true)

pub returns-then-exponent_len-eq0-clause-found : goal.returns-then-exponent_len-eq0-clause-found
returns-then-exponent_len-eq0-clause-found c =
    int_at_front c.args.text.now c.digits_len-digits.result c.exponent_len.result (sym c.begins_digit.ensures ∙ c.if-not-begins_digit.false)
    c.digits_len-digits.ensures (sym c.begins_with.ensures ∙ c.if-begins_with.false) c.exponent_len.ensures c.if-exponent_len-eq0.true

pub returns-else-exponent_len-eq0-clause-none : goal.returns-else-exponent_len-eq0-clause-none
returns-else-exponent_len-eq0-clause-none c = λ len.
    no_int_exponent c.args.text.now c.digits_len-digits.result c.exponent_len.result len (sym c.begins_digit.ensures ∙ c.if-not-begins_digit.false)
    c.digits_len-digits.ensures c.exponent_len.ensures c.if-exponent_len-eq0.false

pub returns-then-not-begins_digit-clause-none : goal.returns-then-not-begins_digit-clause-none
returns-then-not-begins_digit-clause-none c = λ len. int_begins c.args.text.now len (sym c.begins_digit.ensures ∙ c.if-not-begins_digit.true)
