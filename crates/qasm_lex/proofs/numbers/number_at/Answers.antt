-- The digits, the point with its digits, and the exponent are the longest number.
use Rattle.std.proofs.Common.{arith, refl}
use Rattle.qasm_lex.specs.declared.tokens.TokenKind.TheVariants.{Int, Real}
use Rattle.qasm_lex.proofs.FrontLemmas.{number_found, number_lacking}
use Rattle.qasm_lex.proofs.numbers.number_at.Goals as goal

pub returns-then-fraction-eq1-clause-none : goal.returns-then-fraction-eq1-clause-none
returns-then-fraction-eq1-clause-none c =
    number_lacking c.args.text.now c.digits_len-whole.result c.fraction_len-fraction.result c.fraction_len-fraction.ensures
    c.if-whole-eq0.true c.if-fraction-eq1.true

pub returns-then-len-whole-clause-found : goal.returns-then-len-whole-clause-found
returns-then-len-whole-clause-found c =
    number_found c.args.text.now c.digits_len-whole.result c.fraction_len-fraction.result c.exponent_len.result Int c.requires
    c.digits_len-whole.ensures c.fraction_len-fraction.ensures c.exponent_len.ensures (λ none one. omega arith)
    (λ _. refl) (λ other. absurd (other c.if-len-whole.true))

pub returns-else-len-whole-clause-found : goal.returns-else-len-whole-clause-found
returns-else-len-whole-clause-found c =
    number_found c.args.text.now c.digits_len-whole.result c.fraction_len-fraction.result c.exponent_len.result Real c.requires
    c.digits_len-whole.ensures c.fraction_len-fraction.ensures c.exponent_len.ensures (λ none one. omega arith)
    (λ same. absurd (c.if-len-whole.false same)) (λ _. refl)
