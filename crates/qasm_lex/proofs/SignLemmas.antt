-- A sign that is next, and one that is not: the byte behind the gap tells it.
use Rattle.std.proofs.Common.{◌≡◌, ℕ, ◌+◌, ◌-◌, ◌≤◌, Bool, true, false, not, List, [], ◌∷◌, ◌++◌, length, take, drop, refl, sym, ap, ◌∙◌, subst, ◌&&◌, ◌||◌}
use Rattle.std.specs.Prelude.{◌==◌}
use Rattle.std.specs.Char.{is_ascii_alphabetic, is_ascii_digit}
use Rattle.std.proofs.lemmas.Bool.{and_parts, eq-eqb, eqb-true, false≢true, or_parts}
use Rattle.std.proofs.lemmas.List.{drop-drop, take-append-drop, take_rest}
use Rattle.qasm_lex.specs.declared.tokens.Token.{Token}
use Rattle.qasm_lex.specs.declared.tokens.TokenKind.{TokenKind}
use Rattle.qasm_lex.specs.declared.tokens.TokenKind.TheVariants.{Word, Int, Real, Text, Semi, Comma, LParen, RParen, LBracket, RBracket, LBrace, RBrace, Plus, Minus, Times, Over, Power, Arrow, Equal}
use Rattle.qasm_lex.specs.Runs.{begins, begins_pair}
use Rattle.qasm_lex.specs.Tokens.{IsToken}
use Rattle.qasm_lex.specs.Reading.{IsNext}
use Rattle.qasm_lex.specs.Fronts.{GapAtFront, IsNextIn, TokenAtFront, begins_alone, begins_no_long}
use Rattle.qasm_lex.proofs.RunLemmas.{heads, no_pair, not_then}
use Rattle.qasm_lex.proofs.KindLemmas.{no_digit_first, no_letter, no_number, real_begins}
use Rattle.qasm_lex.proofs.GapLemmas.{gap-unique}
use Rattle.qasm_lex.proofs.FrontLemmas.{at_front, short_at_front}
use Rattle.qasm_lex.proofs.ReadingLemmas.{next_in}

-- where one token of a kind is such a byte, each is
pub one_byte : (kind : TokenKind) (c : ℕ) (bytes : List ℕ) → begins_no_long c ≡ true → IsToken kind (c ∷ []) → IsToken kind bytes → bytes ≡ c ∷ []
one_byte Word c bytes sign is also = absurd (no_letter c sign (and_parts (is_ascii_alphabetic c) _ is).0)
one_byte Int c bytes sign is also = absurd (no_digit_first c sign (and_parts (is_ascii_digit c) true is).0)
one_byte Real c bytes sign is also = absurd (no_number c sign (real_begins c [] is))
one_byte Text c bytes sign quoted also = absurd (false≢true (ap begins_no_long (sym (heads quoted.bytes_are)) ∙ sign))
one_byte Semi c bytes sign is also = also ∙ sym is
one_byte Comma c bytes sign is also = also ∙ sym is
one_byte LParen c bytes sign is also = also ∙ sym is
one_byte RParen c bytes sign is also = also ∙ sym is
one_byte LBracket c bytes sign is also = also ∙ sym is
one_byte RBracket c bytes sign is also = also ∙ sym is
one_byte LBrace c bytes sign is also = also ∙ sym is
one_byte RBrace c bytes sign is also = also ∙ sym is
one_byte Plus c bytes sign is also = also ∙ sym is
one_byte Minus c bytes sign is also = also ∙ sym is
one_byte Times c bytes sign is also = also ∙ sym is
one_byte Over c bytes sign is also = also ∙ sym is
one_byte Power c bytes sign is also = also ∙ sym is
one_byte Arrow c bytes sign is also = also ∙ sym is
one_byte Equal c bytes sign is also = also ∙ sym is

-- the byte is the longest token
alone_at_front :
    (text : List ℕ) (kind : TokenKind) (c : ℕ) → begins_alone c ≡ true → begins (λ b. b == c) text ≡ true → IsToken kind (c ∷ [])
    → TokenAtFront text kind 1
alone_at_front [] kind c alone begun token = absurd (false≢true begun)
alone_at_front (d ∷ rest) kind c alone begun token =
    let same : d ≡ c = eqb-true d c begun in
    let parts = and_parts (begins_no_long c) (not (c == 45 || c == 61)) alone in
    let apart = or_parts (c == 45) (c == 61) (not_then (c == 45 || c == 61) parts.1) in
    short_at_front (d ∷ rest) kind c (ap begins_no_long same ∙ parts.0) (sym same) token
    (no_pair d 45 62 rest (ap (λ (b : ℕ). b == 45) same ∙ apart.0)) (no_pair d 61 61 rest (ap (λ (b : ℕ). b == 61) same ∙ apart.1))

-- the sign is next where its byte stands behind the gap
pub sign_in :
    (text : List ℕ) (from g c : ℕ) (kind : TokenKind) → begins_alone c ≡ true → IsToken kind (c ∷ []) → from ≤ length text
    → GapAtFront (take (length text - from) (drop from text)) g
    → begins (λ b. b == c) (take (length text - (from + g)) (drop (from + g) text)) ≡ true
    → IsNextIn text from (record { kind = kind; start = from + g; end = from + g + 1 })
sign_in text from g c kind alone token within gap begun =
    next_in text from g 1 kind within gap (alone_at_front (take (length text - (from + g)) (drop (from + g) text)) kind c alone begun token)

-- the next token stands behind the gap
stands_behind :
    (text : List ℕ) (from g : ℕ) → GapAtFront (take (length text - from) (drop from text)) g
    → (t : Token) (follows : List ℕ) (next : IsNext (drop from text) from t follows)
    → take (length text - (from + g)) (drop (from + g) text) ≡ next.bytes ++ follows
stands_behind text from g gap_cut t follows next =
    let left = drop from text in
    let gap = subst (λ (t : List ℕ). GapAtFront t g) (take_rest text from) gap_cut in
    let behind : next.bytes ++ follows ≡ drop g left =
    (gap-unique next.is_gap gap.is_gap (sym next.left_is ∙ sym (take-append-drop g left))).1 in
    take_rest text (from + g) ∙ sym (drop-drop g from text) ∙ sym behind

-- and no token of its kind is next where another byte stands there
pub no_sign_in :
    (text : List ℕ) (from g c : ℕ) (kind : TokenKind) → begins_alone c ≡ true → IsToken kind (c ∷ [])
    → GapAtFront (take (length text - from) (drop from text)) g
    → begins (λ b. b == c) (take (length text - (from + g)) (drop (from + g) text)) ≡ false
    → (t : Token) (follows : List ℕ) → IsNext (drop from text) from t follows → t.kind ≡ kind → ⊥
no_sign_in text from g c kind alone token gap_cut other t follows next same =
    let bytes : next.bytes ≡ c ∷ [] =
    one_byte kind c next.bytes (and_parts (begins_no_long c) (not (c == 45 || c == 61)) alone).0 token
    (subst (λ (k : TokenKind). IsToken k next.bytes) same next.is_longest.token) in
    let stands : take (length text - (from + g)) (drop (from + g) text) ≡ c ∷ follows =
    stands_behind text from g gap_cut t follows next ∙ ap (λ (b : List ℕ). b ++ follows) bytes in
    false≢true (sym other ∙ ap (begins (λ b. b == c)) stands ∙ eq-eqb c c refl)

-- ---- tokens of other kinds

-- no token of a kind is next where none stands behind the gap
pub no_kind_in :
    (text : List ℕ) (from g : ℕ) (kind : TokenKind) → GapAtFront (take (length text - from) (drop from text)) g
    → ((len : ℕ) → TokenAtFront (take (length text - (from + g)) (drop (from + g) text)) kind len → ⊥)
    → (t : Token) (follows : List ℕ) → IsNext (drop from text) from t follows → t.kind ≡ kind → ⊥
no_kind_in text from g kind gap_cut none t follows next same =
    let rest = take (length text - (from + g)) (drop (from + g) text) in
    none (length next.bytes)
    (subst (λ (k : TokenKind). TokenAtFront rest k (length next.bytes)) same
    (at_front rest t.kind next.bytes follows (length next.bytes) (stands_behind text from g gap_cut t follows next) refl next.is_longest))
