-- What is read of a text from a place on, by what stands there.
use Rattle.std.proofs.Common.{◌≡◌, ℕ, true, List, [], ◌∷◌, ◌++◌, length, drop, codes, Option, Some, None, Ok, refl, sym, ap, subst, ◌∙◌, arith}
use Rattle.std.proofs.lemmas.List.{append-nil, drop_all}
use Rattle.qasm_lex.specs.declared.tokens.Token.{Token}
use Rattle.qasm_lex.specs.declared.tokens.TokenKind.TheVariants as token
use Rattle.qasm_lex.specs.declared.fault.LexFault.{LexFault}
use Rattle.qasm_lex.specs.Gaps.{IsGap}
use Rattle.qasm_lex.specs.Gaps.IsGap.{none as no_gap}
use Rattle.qasm_lex.specs.Reading.{AreTokens, Reads}
use Rattle.qasm_lex.specs.Fronts.{IsFaultFrom, IsNextIn}
use Rattle.qasm_lex.proofs.LeftLemmas.{end_left, fault_left, left_is, next_left, reads_left, stuck_left, tokens_left}
use Rattle.qccd_circuit.specs.Circuit.{CircuitData}
use Rattle.qasm_reader.specs.Lexeme.{Lexeme, lexeme, lexemes}
use Rattle.qasm_reader.specs.Reading.{answer}
use Rattle.qasm_reader.specs.Code.{lexemes_left, stuck_lexemes}
use Rattle.qasm_reader.proofs.LastTokens.{circuit_ends, ends, ends_last}

abbrev put : List ℕ → List Token → Option ℕ → List Lexeme
put text ts stuck = lexemes text ts ++ stuck_lexemes stuck

put_same : (text : List ℕ) (ts us : List Token) (a b : Option ℕ) → ts ≡ us → a ≡ b → put text ts a ≡ put text us b
put_same text ts us a b one two = λ i. put text (one i) (two i)

-- the next token, and what is read behind it
pub lexed_next : (text : List ℕ) (place : ℕ) (t : Token) → IsNextIn text place t → lexemes_left text place ≡ lexeme text t ∷ lexemes_left text t.end
unfolding lexemes_left
lexed_next text place t next =
    let is = next_left text place t next in put_same text (tokens_left text place) (t ∷ tokens_left text t.end) (stuck_left text place) (stuck_left text t.end) is.0 is.1

-- nothing at the end
pub lexed_end : (text : List ℕ) (place : ℕ) → IsGap (drop place text) [] → lexemes_left text place ≡ []
unfolding lexemes_left
lexed_end text place gap =
    let is = end_left text place gap in put_same text (tokens_left text place) [] (stuck_left text place) None is.0 is.1

abbrev pub quote : Lexeme
quote = record { kind = token.Text; at = 0; bytes = codes "\"" }

-- a string of one quote where no token begins
pub lexed_stuck : (text : List ℕ) (place : ℕ) (e : LexFault) → IsFaultFrom text place e → lexemes_left text place ≡ quote ∷ []
unfolding lexemes_left
lexed_stuck text place e fault =
    let is = fault_left text place e fault in put_same text (tokens_left text place) [] (stuck_left text place) (Some is.0) is.1 is.2

-- nothing behind the last byte
pub lexed_behind : (text : List ℕ) → lexemes_left text (length text) ≡ []
lexed_behind text = lexed_end text (length text) (subst (λ (t : List ℕ). IsGap t []) (sym (drop_all (length text) text (omega arith))) (no_gap refl))

-- a string of one quote, and nothing behind the last byte
pub lexed_last : (text : List ℕ) (place : ℕ) (e : LexFault) → IsFaultFrom text place e → lexemes_left text place ≡ quote ∷ lexemes_left text (length text)
lexed_last text place e fault = lexed_stuck text place e fault ∙ ap (λ (ls : List Lexeme). quote ∷ ls) (sym (lexed_behind text))

-- of a list of tokens these are read
pub lexed_all : (text : List ℕ) (ts : List Token) → AreTokens text ts → lexemes_left text 0 ≡ lexemes text ts
unfolding lexemes_left
lexed_all text ts are =
    let is = left_is text 0 ts None are in
    put_same text (tokens_left text 0) ts (stuck_left text 0) None is.0 is.1 ∙ append-nil (lexemes text ts)

-- a text of which a circuit is read has a list of tokens
pub record IsLexed (text : List ℕ) : Type 0 where
  pub ts : List Token
  pub are : AreTokens text ts

pub circuit_lexed : (text : List ℕ) (c : CircuitData) → answer (length text) (lexemes_left text 0) ≡ Ok c → IsLexed text
unfolding lexemes_left
circuit_lexed text c so = by_end (stuck_left text 0) (reads_left text 0) (circuit_ends (length text) _ c so)
  where
    by_end : (stuck : Option ℕ) → Reads text 0 (tokens_left text 0) stuck → ends (put text (tokens_left text 0) stuck) ≡ true → IsLexed text
    by_end None reads is = record { ts = tokens_left text 0; are = reads }
    by_end (Some at) reads is = absurd (ends_last (lexemes text (tokens_left text 0)) quote refl is)
