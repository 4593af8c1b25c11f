-- The longest word, string and sign at the front of a text.
use Rattle.std.proofs.Common.{◌↔◌, ◌≡◌, ℕ, ◌≤◌, true, false, inl, inr, ◌⊎◌, List, [], ◌∷◌, ◌++◌, length, refl, sym, ap, ◌∙◌, subst, arith}
use Rattle.std.specs.Prelude.{◌==◌}
use Rattle.std.specs.Char.{is_ascii_alphabetic, is_ascii_digit}
use Rattle.std.specs.List.{list_all}
use Rattle.std.proofs.lemmas.Bool.{and_parts, and_from, cases_eq, false≢true}
use Rattle.std.proofs.lemmas.Bool.Decides.{nat_tests}
use Rattle.std.proofs.lemmas.List.{append_assoc, length-append}
use Rattle.qasm_lex.specs.declared.tokens.TokenKind.{TokenKind}
use Rattle.qasm_lex.specs.declared.tokens.TokenKind.TheVariants.{Word, Int, Real, Text, Semi, Comma, LParen, RParen, LBracket, RBracket, LBrace, RBrace, Plus, Minus, Times, Over, Power, Arrow, Equal}
use Rattle.qasm_lex.specs.Runs.{begins, begins_pair}
use Rattle.qasm_lex.specs.Tokens.{BeginsNoToken, IsLongest, IsToken, is_text_byte, is_word, is_word_byte}
use Rattle.qasm_lex.specs.Fronts.{begins_no_long}
use Rattle.qasm_lex.proofs.RunLemmas.{IsRun, heads, run-unique, run_longest-length, tails}
use Rattle.qasm_lex.proofs.KindLemmas.{IsSignShape, no_digit_first, no_letter, no_number, real_begins, sign_front, text_front, word_front}

-- ---- words

letter_word : (c : ℕ) → is_ascii_alphabetic c ≡ true → is_word_byte c ≡ true
letter_word c letter = grind (arith, nat_tests)

word_bytes : (front : List ℕ) → is_word front ≡ true → list_all is_word_byte front ≡ true
word_bytes [] word = refl
word_bytes (c ∷ cs) word =
    let parts = and_parts (is_ascii_alphabetic c) (list_all is_word_byte cs) word in
    and_from (is_word_byte c) (list_all is_word_byte cs) (letter_word c parts.0) parts.1

pub longest_word :
    (front follows : List ℕ) → IsRun is_word_byte front follows → begins is_ascii_alphabetic (front ++ follows) ≡ true → IsLongest Word front follows
longest_word [] [] run letter = absurd (false≢true letter)
longest_word [] (c ∷ follows) run letter = absurd (false≢true (sym run.ends ∙ letter_word c letter))
longest_word (c ∷ cs) follows run letter =
    record {
      token = and_from (is_ascii_alphabetic c) (list_all is_word_byte cs) letter (and_parts (is_word_byte c) (list_all is_word_byte cs) run.passes).1;
      longest = λ kind front rest same token. run_longest-length is_word_byte (c ∷ cs) follows front rest run same
          (word_bytes front (word_front kind (c ∷ (cs ++ follows)) front rest letter same token));
    }

-- ---- strings

pub longest_text : (inner follows : List ℕ) → list_all is_text_byte inner ≡ true → IsLongest Text (34 ∷ (inner ++ 34 ∷ [])) follows
longest_text inner follows plain =
    record { token = record { inner = inner; plain = plain; bytes_are = refl }; longest = longest }
  where
    longest :
        (kind : TokenKind) (front rest : List ℕ) → 34 ∷ ((inner ++ 34 ∷ []) ++ follows) ≡ front ++ rest → IsToken kind front
        → length front ≤ length (34 ∷ (inner ++ 34 ∷ []))
    longest kind front rest same token =
        let quoted = text_front kind ((inner ++ 34 ∷ []) ++ follows) front rest same token in
        let cut : inner ++ 34 ∷ follows ≡ quoted.inner ++ 34 ∷ rest =
        sym (append_assoc inner (34 ∷ []) follows) ∙ tails (same ∙ ap (λ (t : List ℕ). t ++ rest) quoted.bytes_are) ∙ append_assoc quoted.inner (34 ∷ []) rest in
        let parts = run-unique is_text_byte inner (34 ∷ follows) quoted.inner (34 ∷ rest)
        (record { passes = plain; ends = refl }) (record { passes = quoted.plain; ends = refl }) cut in
        omega (arith, ap length parts.0, ap length quoted.bytes_are, length-append inner (34 ∷ []), length-append quoted.inner (34 ∷ []))

-- a quote that is not closed on its line
pub open_text : (inner follows : List ℕ) → IsRun is_text_byte inner follows → begins (λ c. c == 34) follows ≡ false → BeginsNoToken (34 ∷ (inner ++ follows))
open_text inner follows run other = λ kind front rest same token.
    let quoted = text_front kind (inner ++ follows) front rest same token in
    let cut : inner ++ follows ≡ quoted.inner ++ 34 ∷ rest =
    tails (same ∙ ap (λ (t : List ℕ). t ++ rest) quoted.bytes_are) ∙ append_assoc quoted.inner (34 ∷ []) rest in
    let parts = run-unique is_text_byte inner follows quoted.inner (34 ∷ rest) run (record { passes = quoted.plain; ends = refl }) cut in
    false≢true (sym other ∙ ap (begins (λ c. c == 34)) parts.1)

-- a quote begins no token where no string from there on is closed on its line, and only there
pub quote_open :
    (rest : List ℕ) → BeginsNoToken (34 ∷ rest)
    ↔ ((inner follows : List ℕ) → list_all is_text_byte inner ≡ true → rest ≡ inner ++ 34 ∷ follows → ⊥)
quote_open rest = (
  λ none inner follows plain is.
      none Text (34 ∷ (inner ++ 34 ∷ [])) follows (ap (λ (t : List ℕ). 34 ∷ t) (is ∙ sym (append_assoc inner (34 ∷ []) follows)))
      (record { inner = inner; plain = plain; bytes_are = refl }),
  λ unclosed kind front more same token.
      let quoted = text_front kind rest front more same token in
      unclosed quoted.inner more quoted.plain
      (tails (same ∙ ap (λ (t : List ℕ). t ++ more) quoted.bytes_are) ∙ append_assoc quoted.inner (34 ∷ []) more),
)

-- ---- signs

-- the text begins with neither sign of two bytes
pub record HasNoPair (text : List ℕ) : Type 0 where
  pub no_arrow : begins_pair 45 62 text ≡ false
  pub no_equal : begins_pair 61 61 text ≡ false

short_front : (text front rest : List ℕ) → HasNoPair text → text ≡ front ++ rest → IsSignShape front → length front ≡ 1
short_front text front rest apart same (inl one) = one
short_front text front rest apart same (inr (inl arrow)) =
    absurd (false≢true (sym apart.no_arrow ∙ ap (begins_pair 45 62) (same ∙ ap (λ (t : List ℕ). t ++ rest) arrow)))
short_front text front rest apart same (inr (inr equal)) =
    absurd (false≢true (sym apart.no_equal ∙ ap (begins_pair 61 61) (same ∙ ap (λ (t : List ℕ). t ++ rest) equal)))

pub longest_short :
    (kind : TokenKind) (c : ℕ) (follows : List ℕ) → begins_no_long c ≡ true → IsToken kind (c ∷ []) → HasNoPair (c ∷ follows)
    → IsLongest kind (c ∷ []) follows
longest_short kind c follows sign is apart =
    record {
      token = is;
      longest = λ other front rest same token.
          let one = short_front (c ∷ follows) front rest apart same (sign_front other (c ∷ follows) front rest sign same token) in omega (arith, one);
    }

shape_short : (front : List ℕ) → IsSignShape front → length front ≤ 2
shape_short front (inl one) = omega (arith, one)
shape_short front (inr (inl arrow)) = omega (arith, ap length arrow)
shape_short front (inr (inr equal)) = omega (arith, ap length equal)

pub longest_arrow : (follows : List ℕ) → IsLongest Arrow (45 ∷ 62 ∷ []) follows
longest_arrow follows =
    record {
      token = refl;
      longest = λ other front rest same token. shape_short front (sign_front other (45 ∷ 62 ∷ follows) front rest refl same token);
    }

pub longest_equal : (follows : List ℕ) → IsLongest Equal (61 ∷ 61 ∷ []) follows
longest_equal follows =
    record {
      token = refl;
      longest = λ other front rest same token. shape_short front (sign_front other (61 ∷ 61 ∷ follows) front rest refl same token);
    }

-- the bytes that are signs alone, with the kinds
abbrev pub short_signs : List (ℕ × TokenKind)
short_signs =
    (59, Semi) ∷ (44, Comma) ∷ (40, LParen) ∷ (41, RParen) ∷ (91, LBracket) ∷ (93, RBracket) ∷ (123, LBrace) ∷ (125, RBrace)
    ∷ (43, Plus) ∷ (45, Minus) ∷ (42, Times) ∷ (47, Over) ∷ (94, Power) ∷ []

abbrev pub IsOther : ℕ → List (ℕ × TokenKind) → Type 0
IsOther c [] = Unit {0}
IsOther c (s ∷ signs) = (c ≡ s.0 → ⊥) × IsOther c signs

-- another byte is no sign alone
pub no_short : (kind : TokenKind) (c : ℕ) → begins_no_long c ≡ true → IsOther c short_signs → IsToken kind (c ∷ []) → ⊥
no_short Word c sign other is = no_letter c sign (and_parts (is_ascii_alphabetic c) _ is).0
no_short Int c sign other is = no_digit_first c sign (and_parts (is_ascii_digit c) true is).0
no_short Real c sign other is = no_number c sign (real_begins c [] is)
no_short Text c sign other quoted = false≢true (ap begins_no_long (sym (heads quoted.bytes_are)) ∙ sign)
no_short Semi c sign other is = other.0 (heads is)
no_short Comma c sign other is = other.1.0 (heads is)
no_short LParen c sign other is = other.1.1.0 (heads is)
no_short RParen c sign other is = other.1.1.1.0 (heads is)
no_short LBracket c sign other is = other.1.1.1.1.0 (heads is)
no_short RBracket c sign other is = other.1.1.1.1.1.0 (heads is)
no_short LBrace c sign other is = other.1.1.1.1.1.1.0 (heads is)
no_short RBrace c sign other is = other.1.1.1.1.1.1.1.0 (heads is)
no_short Plus c sign other is = other.1.1.1.1.1.1.1.1.0 (heads is)
no_short Minus c sign other is = other.1.1.1.1.1.1.1.1.1.0 (heads is)
no_short Times c sign other is = other.1.1.1.1.1.1.1.1.1.1.0 (heads is)
no_short Over c sign other is = other.1.1.1.1.1.1.1.1.1.1.1.0 (heads is)
no_short Power c sign other is = other.1.1.1.1.1.1.1.1.1.1.1.1.0 (heads is)
no_short Arrow c sign other is = cc
no_short Equal c sign other is = cc

-- a sign begins no token where its byte is no sign alone and no sign of two bytes stands there
pub no_sign : (c : ℕ) (follows : List ℕ) → begins_no_long c ≡ true → ((kind : TokenKind) → IsToken kind (c ∷ []) → ⊥) → HasNoPair (c ∷ follows)
    → BeginsNoToken (c ∷ follows)
no_sign c follows sign none apart = λ kind front rest same token.
    by_length kind front rest same token (short_front (c ∷ follows) front rest apart same (sign_front kind (c ∷ follows) front rest sign same token))
  where
    by_length : (kind : TokenKind) (front rest : List ℕ) → c ∷ follows ≡ front ++ rest → IsToken kind front → length front ≡ 1 → ⊥
    by_length kind [] rest same token one = omega (arith, one)
    by_length kind (d ∷ e ∷ front) rest same token one = omega (arith, one)
    by_length kind (d ∷ []) rest same token one = none kind (subst (λ (b : ℕ). IsToken kind (b ∷ [])) (sym (heads same)) token)

AreSigns : List (ℕ × TokenKind) → Type 0
AreSigns [] = Unit {0}
AreSigns (s ∷ signs) = IsToken s.1 (s.0 ∷ []) × AreSigns signs

find_short : (c : ℕ) (signs : List (ℕ × TokenKind)) → AreSigns signs → ((kind : TokenKind) × IsToken kind (c ∷ [])) ⊎ IsOther c signs
unfolding AreSigns
find_short c [] are = inr tt
find_short c (s ∷ signs) are = by_first (cases_eq c s.0) (find_short c signs are.1)
  where
    by_first :
        (c ≡ s.0) ⊎ (c ≡ s.0 → ⊥) → ((kind : TokenKind) × IsToken kind (c ∷ [])) ⊎ IsOther c signs
        → ((kind : TokenKind) × IsToken kind (c ∷ [])) ⊎ IsOther c (s ∷ signs)
    by_first (inl is) more = inl (s.1, subst (λ (b : ℕ). IsToken s.1 (b ∷ [])) (sym is) are.0)
    by_first (inr other) (inl found) = inl found
    by_first (inr other) (inr others) = inr (other, others)

-- a byte is a sign alone or it is not
pub short_or_none :
    (c : ℕ) → begins_no_long c ≡ true → ((kind : TokenKind) × IsToken kind (c ∷ [])) ⊎ ((kind : TokenKind) → IsToken kind (c ∷ []) → ⊥)
unfolding AreSigns
short_or_none c sign =
    elim (find_short c short_signs (refl, (refl, (refl, (refl, (refl, (refl, (refl, (refl, (refl, (refl, (refl, (refl, (refl, tt))))))))))))))
    [ inl found ↦ inl found | inr other ↦ inr (λ kind is. no_short kind c sign other is) ]
