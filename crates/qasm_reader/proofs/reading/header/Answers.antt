-- Each token leads to the next.
use Rattle.std.proofs.Common.{ℕ, List, ◌∷◌, [], codes, ◌∙◌}
use Rattle.qasm_lex.specs.declared.tokens.TokenKind.{TokenKind}
use Rattle.qasm_lex.specs.declared.tokens.TokenKind.TheVariants as token
use Rattle.qasm_reader.specs.Known.{nothing}
use Rattle.qasm_reader.proofs.Leading.{leads_before, leads_exit, leads_exit_later}
use Rattle.qasm_reader.proofs.reading.header.Goals as goal

abbrev two : List (TokenKind × List ℕ)
two = (token.Real, codes "2.0") ∷ (token.Semi, codes ";") ∷ []

abbrev one : List (TokenKind × List ℕ)
one = (token.Semi, codes ";") ∷ []

pub returns-in_err-rest : goal.returns-in_err-rest
returns-in_err-rest c = leads_exit _ _ _ _ c.from_residual.ensures.1 (c.in_err-rest.ensures nothing two)

pub returns-in_err-rest-2 : goal.returns-in_err-rest-2
returns-in_err-rest-2 c = leads_exit_later _ _ _ _ _ c.from_residual-in_err-rest-2.ensures.1 (c.in_ok-rest.ensures nothing two) (c.in_err-rest-2.ensures nothing one)

pub returns : goal.returns
returns c = leads_before _ _ _ c.header_token-3.result (c.in_ok-rest.ensures nothing two ∙ c.in_ok-rest-2.ensures nothing one) (c.header_token-3.ensures nothing [])
