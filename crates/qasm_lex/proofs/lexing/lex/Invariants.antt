-- However the text is read from here on, the whole text is so read behind the tokens so far.
use Rattle.std.proofs.Common.{ℕ, List, Option, ◌++◌, ◌-◌, ◌≤◌, length, drop}
use Rattle.qasm_lex.specs.declared.tokens.Token.{Token}
use Rattle.qasm_lex.specs.Reading.{Reads}
use Rattle.qasm_lex.proofs.lexing.lex.Given as goal

abbrev pub invariant-loop-tokens : goal.invariant-loop-tokens
invariant-loop-tokens l = record {
  within : l.from ≤ length l.text;
  goes_on : (ts : List Token) (stuck : Option ℕ) → Reads (drop l.from l.text) l.from ts stuck → Reads l.text 0 (l.tokens.items ++ ts) stuck;
}

abbrev pub decreases-loop-tokens : goal.decreases-loop-tokens
decreases-loop-tokens l = length l.text - l.from
