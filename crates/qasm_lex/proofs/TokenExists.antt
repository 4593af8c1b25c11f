-- Each text begins with a longest token, or with none.
use Rattle.std.proofs.Common.{◌≡◌, ℕ, suc, zero, ◌+◌, ◌-◌, ◌<◌, Bool, true, false, inl, inr, ◌⊎◌, List, [], ◌∷◌, length, get_or, take, drop, refl, arith, ◌||◌}
use Rattle.std.specs.Prelude.{◌==◌}
use Rattle.std.specs.Char.{is_ascii_alphabetic, is_ascii_digit}
use Rattle.std.specs.List.{prefix_len}
use Rattle.std.proofs.lemmas.Bool.{cases_eq, false≢true, not_from_false, or_from}
use Rattle.qasm_lex.specs.declared.tokens.TokenKind.{TokenKind}
use Rattle.qasm_lex.specs.declared.tokens.TokenKind.TheVariants.{Word, Int, Real, Text, Arrow, Equal}
use Rattle.qasm_lex.specs.Runs.{begins, begins_pair}
use Rattle.qasm_lex.specs.Tokens.{BeginsNoToken, IsToken, is_exponent_letter, is_text_byte, is_word_byte}
use Rattle.qasm_lex.specs.Fronts.{ExponentAtFront, TokenAtFront, begins_no_long, begins_number, fraction_size, sign_size}
use Rattle.qasm_lex.proofs.TokenLemmas.{longest_arrow, longest_equal, short_or_none}
use Rattle.qasm_lex.proofs.FrontLemmas.{exponent_absent, exponent_found, exponent_lacking, no_short_at_front, number_found, number_lacking, open_at_front, pair_at_front, short_at_front, text_at_front, word_at_front}

-- the longest token at the front, and how many bytes it takes
pub record HasLongest (text : List ℕ) : Type 0 where
  pub kind : TokenKind
  pub len : ℕ
  pub front : TokenAtFront text kind len

-- ---- numbers

exponent_some : (text : List ℕ) (b : Bool) → begins is_exponent_letter text ≡ b → (len : ℕ) × ExponentAtFront text len
exponent_some text false other = (0, exponent_absent text other)
exponent_some text true letter = by_digits digits refl
  where
    sign : ℕ
    sign = sign_size (take (length text - 1) (drop 1 text))

    digits : ℕ
    digits = prefix_len is_ascii_digit (take (length text - (1 + sign)) (drop (1 + sign) text))

    by_digits : (n : ℕ) → n ≡ digits → (len : ℕ) × ExponentAtFront text len
    by_digits zero is = (0, exponent_lacking text sign 0 letter refl is refl)
    by_digits (suc n) is = (1 + sign + suc n, exponent_found text sign (suc n) letter refl is (omega arith))

number_or_none : (text : List ℕ) → begins begins_number text ≡ true → HasLongest text ⊎ BeginsNoToken text
number_or_none text number = by_point (cases_eq whole 0) (cases_eq fraction 1)
  where
    whole : ℕ
    whole = prefix_len is_ascii_digit text

    fraction : ℕ
    fraction = fraction_size (take (length text - whole) (drop whole text))

    found : (whole ≡ 0 → fraction ≡ 1 → ⊥) → HasLongest text
    found apart =
        let left = take (length text - (whole + fraction)) (drop (whole + fraction) text) in
        let last = exponent_some left (begins is_exponent_letter left) refl in
        by_kind last.0 last.1 (cases_eq (whole + fraction + last.0) whole)
      where
        by_kind :
            (e : ℕ) → ExponentAtFront (take (length text - (whole + fraction)) (drop (whole + fraction) text)) e
            → (whole + fraction + e ≡ whole) ⊎ (whole + fraction + e ≡ whole → ⊥) → HasLongest text
        by_kind e last (inl same) =
            record {
              kind = Int;
              len = whole + fraction + e;
              front = number_found text whole fraction e Int number refl refl last apart (λ _. refl) (λ other. absurd (other same));
            }
        by_kind e last (inr other) =
            record {
              kind = Real;
              len = whole + fraction + e;
              front = number_found text whole fraction e Real number refl refl last apart (λ same. absurd (other same)) (λ _. refl);
            }

    by_point :
        (whole ≡ 0) ⊎ (whole ≡ 0 → ⊥) → (fraction ≡ 1) ⊎ (fraction ≡ 1 → ⊥) → HasLongest text ⊎ BeginsNoToken text
    by_point (inl none) (inl one) = inr (number_lacking text whole fraction refl none one)
    by_point (inl none) (inr other) = inl (found (λ _ one. other one))
    by_point (inr some) one = inl (found (λ none _. some none))

-- ---- strings and signs

string_or_none : (text : List ℕ) → begins (λ c. c == 34) text ≡ true → HasLongest text ⊎ BeginsNoToken text
string_or_none text quote = by_end (begins (λ c. c == 34) (take (length text - (1 + inner)) (drop (1 + inner) text))) refl
  where
    inner : ℕ
    inner = prefix_len is_text_byte (take (length text - 1) (drop 1 text))

    by_end : (b : Bool) → begins (λ c. c == 34) (take (length text - (1 + inner)) (drop (1 + inner) text)) ≡ b → HasLongest text ⊎ BeginsNoToken text
    by_end true close = inl (record { kind = Text; len = inner + 2; front = text_at_front text inner quote refl close })
    by_end false open_end = inr (open_at_front text inner quote refl open_end)

first_of_sign : (text : List ℕ) → begins begins_no_long text ≡ true → begins_no_long (get_or text 0 0) ≡ true
first_of_sign [] sign = absurd (false≢true sign)
first_of_sign (c ∷ text) sign = sign

sign_or_none :
    (text : List ℕ) (p q : Bool) → begins begins_no_long text ≡ true → begins_pair 45 62 text ≡ p → begins_pair 61 61 text ≡ q
    → HasLongest text ⊎ BeginsNoToken text
sign_or_none text true q sign arrow equal = inl (record { kind = Arrow; len = 2; front = pair_at_front text Arrow 45 62 longest_arrow arrow })
sign_or_none text false true sign arrow equal = inl (record { kind = Equal; len = 2; front = pair_at_front text Equal 61 61 longest_equal equal })
sign_or_none text false false sign arrow equal = by_byte (short_or_none (get_or text 0 0) (first_of_sign text sign))
  where
    by_byte :
        ((kind : TokenKind) × IsToken kind (get_or text 0 0 ∷ [])) ⊎ ((kind : TokenKind) → IsToken kind (get_or text 0 0 ∷ []) → ⊥)
        → HasLongest text ⊎ BeginsNoToken text
    by_byte (inl found) =
        inl (record { kind = found.0; len = 1; front = short_at_front text found.0 (get_or text 0 0) sign refl found.1 arrow equal })
    by_byte (inr none) = inr (no_short_at_front text (get_or text 0 0) sign refl none arrow equal)

-- ---- by the first byte

by_first :
    (c : ℕ) (rest : List ℕ) (letter number quote : Bool) → is_ascii_alphabetic c ≡ letter → begins_number c ≡ number → (c == 34) ≡ quote
    → HasLongest (c ∷ rest) ⊎ BeginsNoToken (c ∷ rest)
by_first c rest true number quote is num quo =
    let len = prefix_len is_word_byte (c ∷ rest) in inl (record { kind = Word; len = len; front = word_at_front (c ∷ rest) len is refl })
by_first c rest false true quote is num quo = number_or_none (c ∷ rest) num
by_first c rest false false true is num quo = string_or_none (c ∷ rest) quo
by_first c rest false false false is num quo =
    let sign : begins_no_long c ≡ true =
    not_from_false (is_ascii_alphabetic c || (begins_number c || c == 34))
    (or_from (is_ascii_alphabetic c) (begins_number c || c == 34) is (or_from (begins_number c) (c == 34) num quo)) in
    sign_or_none (c ∷ rest) (begins_pair 45 62 (c ∷ rest)) (begins_pair 61 61 (c ∷ rest)) sign refl refl

-- a text begins with a longest token, or with no token
pub token_or_none : (text : List ℕ) → 0 < length text → HasLongest text ⊎ BeginsNoToken text
token_or_none [] some = absurd (omega arith)
token_or_none (c ∷ rest) some = by_first c rest (is_ascii_alphabetic c) (begins_number c) (c == 34) refl refl refl
