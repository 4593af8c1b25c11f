-- Whether the next token is of the kind of a sign.
use Rattle.std.proofs.Common.{◌≡◌, ℕ, ◌-◌, true, false, not, List, [], ◌∷◌, ◌++◌, length, take, drop, Option, Some, None, refl, sym, ap, subst, ◌∙◌, ◌||◌, arith}
use Rattle.std.specs.Prelude.{◌==◌}
use Rattle.std.specs.List.{slice_get}
use Rattle.std.proofs.lemmas.Bool.{and_parts, false≢true, ne_eqb}
use Rattle.std.proofs.lemmas.List.{length-drop, length-take-le}
use Rattle.qasm_lex.specs.declared.tokens.Token.{Token}
use Rattle.qasm_lex.specs.declared.tokens.TokenKind.{TokenKind}
use Rattle.qasm_lex.specs.declared.tokens.TokenKind.TheVariants as token
use Rattle.qasm_lex.specs.Fronts.{IsNextIn, begins_alone, begins_no_long}
use Rattle.qasm_lex.specs.Reading.{IsNext, IsTokenOf, Reads}
use Rattle.qasm_lex.specs.Tokens.{IsToken}
use Rattle.qasm_lex.proofs.LeftLemmas.{reads_left, stuck_left, tokens_left}
use Rattle.qasm_lex.proofs.RunLemmas.{heads}
use Rattle.qasm_lex.proofs.SignLemmas.{one_byte}
use Rattle.qasm_reader.specs.Lexeme.{Lexeme, lexemes, rank}
use Rattle.qasm_reader.specs.Code.{begins, lexemes_left, stuck_lexemes}
use Rattle.qasm_reader.proofs.Lexed.{lexed_next}

-- the kinds by their numbers
abbrev kinds : List TokenKind
kinds =
    token.Word ∷ token.Int ∷ token.Real ∷ token.Text ∷ token.Semi ∷ token.Comma ∷ token.LParen ∷ token.RParen ∷ token.LBracket ∷ token.RBracket
    ∷ token.LBrace ∷ token.RBrace ∷ token.Plus ∷ token.Minus ∷ token.Times ∷ token.Over ∷ token.Power ∷ token.Arrow ∷ token.Equal ∷ []

ranked : (kind : TokenKind) → slice_get kinds (rank kind) ≡ Some kind
ranked token.Word = refl
ranked token.Int = refl
ranked token.Real = refl
ranked token.Text = refl
ranked token.Semi = refl
ranked token.Comma = refl
ranked token.LParen = refl
ranked token.RParen = refl
ranked token.LBracket = refl
ranked token.RBracket = refl
ranked token.LBrace = refl
ranked token.RBrace = refl
ranked token.Plus = refl
ranked token.Minus = refl
ranked token.Times = refl
ranked token.Over = refl
ranked token.Power = refl
ranked token.Arrow = refl
ranked token.Equal = refl

-- kinds of one number are one
same_kind : (a b : TokenKind) → rank a ≡ rank b → a ≡ b
same_kind a b same = let both : Some a ≡ Some b = sym (ranked a) ∙ ap (slice_get kinds) same ∙ ranked b in cc

-- the kind of a sign is not that of a string
no_string : (kind : TokenKind) (c : ℕ) → begins_alone c ≡ true → IsToken kind (c ∷ []) → (3 == rank kind) ≡ false
no_string token.Word c alone is = refl
no_string token.Int c alone is = refl
no_string token.Real c alone is = refl
no_string token.Text c alone quoted =
    absurd (false≢true (ap begins_no_long (sym (heads quoted.bytes_are)) ∙ (and_parts (begins_no_long c) (not (c == 45 || c == 61)) alone).0))
no_string token.Semi c alone is = refl
no_string token.Comma c alone is = refl
no_string token.LParen c alone is = refl
no_string token.RParen c alone is = refl
no_string token.LBracket c alone is = refl
no_string token.RBracket c alone is = refl
no_string token.LBrace c alone is = refl
no_string token.RBrace c alone is = refl
no_string token.Plus c alone is = refl
no_string token.Minus c alone is = refl
no_string token.Times c alone is = refl
no_string token.Over c alone is = refl
no_string token.Power c alone is = refl
no_string token.Arrow c alone is = refl
no_string token.Equal c alone is = refl

-- where no token of a kind is next, what is read does not begin with one
pub other_first :
    (text : List ℕ) (place : ℕ) (kind : TokenKind) → (3 == rank kind) ≡ false
    → ((t : Token) (follows : List ℕ) → IsNext (drop place text) place t follows → t.kind ≡ kind → ⊥) → begins kind (lexemes_left text place) ≡ false
unfolding lexemes_left
other_first text place kind no_string none = by_first (tokens_left text place) (stuck_left text place) (reads_left text place)
  where
    by_first :
        (ts : List Token) (stuck : Option ℕ) → Reads (drop place text) place ts stuck
        → begins kind (lexemes text ts ++ stuck_lexemes stuck) ≡ false
    by_first [] None reads = refl
    by_first [] (Some at) reads = no_string
    by_first (t ∷ ts) stuck reads = ne_eqb (rank t.kind) (rank kind) (λ same. none t reads.0 reads.1 (same_kind t.kind kind same))

pub other_sign :
    (text : List ℕ) (place : ℕ) (kind : TokenKind) (c : ℕ) → begins_alone c ≡ true → IsToken kind (c ∷ [])
    → ((t : Token) (follows : List ℕ) → IsNext (drop place text) place t follows → t.kind ≡ kind → ⊥) → begins kind (lexemes_left text place) ≡ false
other_sign text place kind c alone sign none = other_first text place kind (no_string kind c alone sign) none

-- the sign that is next, and what is read behind it
pub lexed_sign :
    (text : List ℕ) (place : ℕ) (kind : TokenKind) (c : ℕ) (t : Token) → begins_alone c ≡ true → IsToken kind (c ∷ []) → IsNextIn text place t
    → IsTokenOf text t → t.kind ≡ kind → lexemes_left text place ≡ record { kind = kind; at = t.end - 1; bytes = c ∷ [] } ∷ lexemes_left text t.end
lexed_sign text place kind c t alone sign next each same =
    let bytes = take (t.end - t.start) (drop t.start text) in
    let bytes_are : bytes ≡ c ∷ [] =
    one_byte kind c bytes (and_parts (begins_no_long c) (not (c == 45 || c == 61)) alone).0 sign (subst (λ (k : TokenKind). IsToken k bytes) same each.token) in
    let size : length bytes ≡ t.end - t.start = length-take-le (t.end - t.start) (drop t.start text) (omega (arith, length-drop t.start text, each.fits)) in
    let start : t.start ≡ t.end - 1 = omega (arith, size, ap length bytes_are, each.some) in
    lexed_next text place t next
    ∙ ap (λ (l : Lexeme). l ∷ lexemes_left text t.end) (λ i. record { kind = same i; at = start i; bytes = bytes_are i })
