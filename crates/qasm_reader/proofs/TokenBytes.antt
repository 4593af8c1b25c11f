-- The bytes of tokens, as those of angles.
use Rattle.std.proofs.Common.{◌≡◌, ℕ, ◌-◌, ◌≤◌, ◌==◌, Bool, true, ◌&&◌, ◌||◌, ◌⊎◌, inl, inr, IsTrue, List, [], ◌∷◌, ◌++◌, length, drop, Option, Some, None, refl, sym, ap, subst, ◌∙◌, arith}
use Rattle.std.specs.Prelude.{zero, suc}
use Rattle.std.specs.Int.{is_in_range}
use Rattle.std.specs.Char.{is_ascii_alphabetic, is_ascii_alphanumeric, is_ascii_digit}
use Rattle.std.specs.List.{list_all}
use Rattle.std.proofs.lemmas.Bool.{false≢true, and_from, and_parts, eqb-true, le-leb, leb-true, ne_eqb, not_from_false, or_cases}
use Rattle.std.proofs.lemmas.List.{length-drop, length-take}
use Rattle.std.proofs.lemmas.List.Folds.{list_all-append}
use Rattle.qasm_lex.specs.declared.tokens.Token.{Token}
use Rattle.qasm_lex.specs.declared.tokens.TokenKind.{TokenKind}
use Rattle.qasm_lex.specs.declared.tokens.TokenKind.TheVariants as token
use Rattle.qasm_lex.specs.Reading.{IsTokenOf}
use Rattle.qasm_lex.specs.Tokens.{HasPoint, HasExponent, IsToken, are_digits, are_signed_digits, is_exponent, is_exponent_letter, is_sign_byte, is_word, is_word_byte}
use Rattle.qccd_circuit.specs.Item.{is_angle_byte}
use Rattle.qasm_reader.specs.declared.angle.Phase.TheVariants.{Part, Paren, Whole}
use Rattle.qasm_reader.specs.declared.angle.Phase.{Phase}
use Rattle.qasm_reader.specs.declared.angle.AngleState.{AngleState}
use Rattle.qasm_reader.specs.Angle.{angle_state, angle_step}
use Rattle.qasm_reader.specs.Lexeme.{Lexeme, has_angle_bytes, is, lexeme}

angle_byte : (c : ℕ) → 33 ≤ c → c ≤ 126 → (c ≡ 44 → ⊥) → is_angle_byte c ≡ true
angle_byte c least most other = and_from _ _ (and_from _ _ (le-leb 33 c least) (le-leb c 126 most)) (not_from_false (c == 44) (ne_eqb c 44 other))

in_range : (low high c : ℕ) → 45 ≤ low → high ≤ 126 → is_in_range low high c ≡ true → is_angle_byte c ≡ true
in_range low high c least most is =
    let parts = and_parts _ _ is in
    let above = leb-true low c parts.0 in
    let below = leb-true c high parts.1 in angle_byte c (omega (arith, least, above)) (omega (arith, most, below)) (λ same. omega (arith, least, above, same))

digit : (c : ℕ) → is_ascii_digit c ≡ true → is_angle_byte c ≡ true
digit c is = in_range 48 57 c (omega arith) (omega arith) is

letter : (c : ℕ) → is_ascii_alphabetic c ≡ true → is_angle_byte c ≡ true
letter c is = by_case (or_cases _ _ is)
  where
    by_case : (is_in_range 65 90 c ≡ true) ⊎ (is_in_range 97 122 c ≡ true) → is_angle_byte c ≡ true
    by_case (inl upper) = in_range 65 90 c (omega arith) (omega arith) upper
    by_case (inr lower) = in_range 97 122 c (omega arith) (omega arith) lower

this_byte : (c d : ℕ) → is_angle_byte d ≡ true → (c == d) ≡ true → is_angle_byte c ≡ true
this_byte c d may is = ap is_angle_byte (eqb-true c d is) ∙ may

word_byte : (c : ℕ) → is_word_byte c ≡ true → is_angle_byte c ≡ true
word_byte c is = by_case (or_cases _ _ is)
  where
    by_digit : (is_in_range 48 57 c ≡ true) ⊎ (is_in_range 65 90 c ≡ true) → is_angle_byte c ≡ true
    by_digit (inl one) = digit c one
    by_digit (inr upper) = in_range 65 90 c (omega arith) (omega arith) upper

    by_letter : (is_in_range 48 57 c || is_in_range 65 90 c ≡ true) ⊎ (is_in_range 97 122 c ≡ true) → is_angle_byte c ≡ true
    by_letter (inl front) = by_digit (or_cases _ _ front)
    by_letter (inr lower) = in_range 97 122 c (omega arith) (omega arith) lower

    by_case : (is_ascii_alphanumeric c ≡ true) ⊎ (c == 95 ≡ true) → is_angle_byte c ≡ true
    by_case (inl one) = by_letter (or_cases _ _ one)
    by_case (inr underscore) = this_byte c 95 refl underscore

-- a test that says no less
all_weaker : (p q : ℕ → Bool) → ((c : ℕ) → p c ≡ true → q c ≡ true) → (bytes : List ℕ) → list_all p bytes ≡ true → list_all q bytes ≡ true
all_weaker p q weaker [] is = refl
all_weaker p q weaker (c ∷ bytes) is =
    let parts = and_parts (p c) (list_all p bytes) is in and_from _ _ (weaker c parts.0) (all_weaker p q weaker bytes parts.1)

abbrev AreBytes : List ℕ → Type 0
AreBytes bytes = list_all is_angle_byte bytes ≡ true

joined : (front back : List ℕ) → AreBytes front → AreBytes back → AreBytes (front ++ back)
joined front back one two = list_all-append is_angle_byte front back ∙ and_from _ _ one two

split_digits : (front back : List ℕ) → list_all is_ascii_digit (front ++ back) ≡ true → AreBytes front × AreBytes back
split_digits front back is =
    let parts = and_parts _ _ (sym (list_all-append is_ascii_digit front back) ∙ is) in
    (all_weaker is_ascii_digit is_angle_byte digit front parts.0, all_weaker is_ascii_digit is_angle_byte digit back parts.1)

some_digits : (bytes : List ℕ) → are_digits bytes ≡ true → list_all is_ascii_digit bytes ≡ true
some_digits [] is = absurd (false≢true is)
some_digits (c ∷ bytes) is = is

digits : (bytes : List ℕ) → are_digits bytes ≡ true → AreBytes bytes
digits bytes is = all_weaker is_ascii_digit is_angle_byte digit bytes (some_digits bytes is)

word : (bytes : List ℕ) → is_word bytes ≡ true → AreBytes bytes
word [] is = absurd (false≢true is)
word (c ∷ bytes) is =
    let parts = and_parts (is_ascii_alphabetic c) _ is in and_from _ _ (letter c parts.0) (all_weaker is_word_byte is_angle_byte word_byte bytes parts.1)

sign_byte : (c : ℕ) → is_sign_byte c ≡ true → is_angle_byte c ≡ true
sign_byte c is = by_case (or_cases _ _ is)
  where
    by_case : (c == 43 ≡ true) ⊎ (c == 45 ≡ true) → is_angle_byte c ≡ true
    by_case (inl plus) = this_byte c 43 refl plus
    by_case (inr minus) = this_byte c 45 refl minus

exponent_letter : (c : ℕ) → is_exponent_letter c ≡ true → is_angle_byte c ≡ true
exponent_letter c is = by_case (or_cases _ _ is)
  where
    by_case : (c == 101 ≡ true) ⊎ (c == 69 ≡ true) → is_angle_byte c ≡ true
    by_case (inl small) = this_byte c 101 refl small
    by_case (inr large) = this_byte c 69 refl large

signed : (bytes : List ℕ) → are_signed_digits bytes ≡ true → AreBytes bytes
signed [] is = absurd (false≢true is)
signed (c ∷ bytes) is = by_case (or_cases _ _ is)
  where
    by_case : (are_digits (c ∷ bytes) ≡ true) ⊎ (is_sign_byte c && are_digits bytes ≡ true) → AreBytes (c ∷ bytes)
    by_case (inl plain) = digits (c ∷ bytes) plain
    by_case (inr with_sign) = let parts = and_parts (is_sign_byte c) _ with_sign in and_from _ _ (sign_byte c parts.0) (digits bytes parts.1)

exponent : (bytes : List ℕ) → is_exponent bytes ≡ true → AreBytes bytes
exponent [] is = absurd (false≢true is)
exponent (c ∷ bytes) is = let parts = and_parts (is_exponent_letter c) _ is in and_from _ _ (exponent_letter c parts.0) (signed bytes parts.1)

with_point : (bytes : List ℕ) → HasPoint bytes → AreBytes bytes
with_point bytes has =
    let parts = split_digits has.whole has.fraction (some_digits (has.whole ++ has.fraction) has.digits) in
    subst AreBytes (sym has.bytes_are) (joined has.whole (46 ∷ (has.fraction ++ has.exponent)) parts.0
    (and_from _ _ refl (joined has.fraction has.exponent parts.1 (perhaps has.perhaps))))
  where
    perhaps : (has.exponent ≡ []) ⊎ IsTrue (is_exponent has.exponent) → AreBytes has.exponent
    perhaps (inl none) = ap (list_all is_angle_byte) none
    perhaps (inr one) = exponent has.exponent one

real : (bytes : List ℕ) → HasPoint bytes ⊎ HasExponent bytes → AreBytes bytes
real bytes (inl point) = with_point bytes point
real bytes (inr has) = subst AreBytes (sym has.bytes_are) (joined has.whole has.exponent (digits has.whole has.digits) (exponent has.exponent has.is_exponent))

-- the bytes of each token but a string and a comma
pub angle_bytes : (kind : TokenKind) (at : ℕ) (bytes : List ℕ) → IsToken kind bytes → has_angle_bytes (record { kind = kind; at = at; bytes = bytes }) ≡ true
angle_bytes token.Word at bytes is = word bytes is
angle_bytes token.Int at bytes is = digits bytes is
angle_bytes token.Real at bytes is = real bytes is
angle_bytes token.Text at bytes is = refl
angle_bytes token.Semi at bytes is = ap (list_all is_angle_byte) is
angle_bytes token.Comma at bytes is = refl
angle_bytes token.LParen at bytes is = ap (list_all is_angle_byte) is
angle_bytes token.RParen at bytes is = ap (list_all is_angle_byte) is
angle_bytes token.LBracket at bytes is = ap (list_all is_angle_byte) is
angle_bytes token.RBracket at bytes is = ap (list_all is_angle_byte) is
angle_bytes token.LBrace at bytes is = ap (list_all is_angle_byte) is
angle_bytes token.RBrace at bytes is = ap (list_all is_angle_byte) is
angle_bytes token.Plus at bytes is = ap (list_all is_angle_byte) is
angle_bytes token.Minus at bytes is = ap (list_all is_angle_byte) is
angle_bytes token.Times at bytes is = ap (list_all is_angle_byte) is
angle_bytes token.Over at bytes is = ap (list_all is_angle_byte) is
angle_bytes token.Power at bytes is = ap (list_all is_angle_byte) is
angle_bytes token.Arrow at bytes is = ap (list_all is_angle_byte) is
angle_bytes token.Equal at bytes is = ap (list_all is_angle_byte) is

-- no string and no comma stands in an angle
none_some : (s : AngleState) (same : Rattle.std.specs.Prelude.◌≡◌ {A = Option AngleState} None (Some s)) → ⊥
none_some s same = cc

no_text : (phase : Phase) (depth at : ℕ) (bytes : List ℕ) (next : AngleState)
    → angle_step (angle_state phase depth) (record { kind = token.Text; at = at; bytes = bytes }) ≡ Some next → ⊥
no_text Part depth at bytes next steps = none_some next steps
no_text Paren depth at bytes next steps = none_some next steps
no_text Whole zero at bytes next steps = none_some next steps
no_text Whole (suc depth) at bytes next steps = none_some next steps

no_comma : (phase : Phase) (depth at : ℕ) (bytes : List ℕ) (next : AngleState)
    → angle_step (angle_state phase depth) (record { kind = token.Comma; at = at; bytes = bytes }) ≡ Some next → ⊥
no_comma Part depth at bytes next steps = none_some next steps
no_comma Paren depth at bytes next steps = none_some next steps
no_comma Whole zero at bytes next steps = none_some next steps
no_comma Whole (suc depth) at bytes next steps = none_some next steps

-- the bytes of a token that goes on with an angle
pub step_bytes : (s next : AngleState) (l : Lexeme) → has_angle_bytes l ≡ true → angle_step s l ≡ Some next → list_all is_angle_byte l.bytes ≡ true
step_bytes s next l has steps = by_kind l.kind has steps
  where
    by_kind :
        (kind : TokenKind) → has_angle_bytes (record { kind = kind; at = l.at; bytes = l.bytes }) ≡ true
        → angle_step s (record { kind = kind; at = l.at; bytes = l.bytes }) ≡ Some next → list_all is_angle_byte l.bytes ≡ true
    by_kind token.Word has steps = has
    by_kind token.Int has steps = has
    by_kind token.Real has steps = has
    by_kind token.Text has steps = absurd (no_text s.phase s.depth l.at l.bytes next steps)
    by_kind token.Semi has steps = has
    by_kind token.Comma has steps = absurd (no_comma s.phase s.depth l.at l.bytes next steps)
    by_kind token.LParen has steps = has
    by_kind token.RParen has steps = has
    by_kind token.LBracket has steps = has
    by_kind token.RBracket has steps = has
    by_kind token.LBrace has steps = has
    by_kind token.RBrace has steps = has
    by_kind token.Plus has steps = has
    by_kind token.Minus has steps = has
    by_kind token.Times has steps = has
    by_kind token.Over has steps = has
    by_kind token.Power has steps = has
    by_kind token.Arrow has steps = has
    by_kind token.Equal has steps = has

-- a token has a byte
pub token_size : (text : List ℕ) (t : Token) → IsTokenOf text t → 1 ≤ length (lexeme text t).bytes
token_size text t is_of =
    omega (arith, is_of.some, is_of.fits, length-take (t.end - t.start) (drop t.start text), length-drop t.start text)
