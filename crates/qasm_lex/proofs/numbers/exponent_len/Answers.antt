-- The letter, perhaps a sign, and the run of digits behind them.
use Rattle.std.proofs.Common.{sym, ◌∙◌, arith}
use Rattle.qasm_lex.proofs.FrontLemmas.{exponent_found}
use Rattle.qasm_lex.proofs.numbers.exponent_len.Goals as goal

pub returns-else-digits-eq0 : goal.returns-else-digits-eq0
returns-else-digits-eq0 c =
    exponent_found c.args.text.now c.sign_len-sign.result c.digits_len-digits.result (sym c.begins_exponent.ensures ∙ c.if-not-begins_exponent.false)
    c.sign_len-sign.ensures c.digits_len-digits.ensures (omega arith)
