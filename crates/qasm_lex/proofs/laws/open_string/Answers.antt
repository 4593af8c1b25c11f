-- A string is a token that begins with a quote.
use Rattle.qasm_lex.proofs.TokenLemmas.{quote_open}
use Rattle.qasm_lex.proofs.laws.open_string.Goals as goal

pub returns : goal.returns
returns c = quote_open
