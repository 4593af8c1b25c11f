-- The longest number at the front of a text.
use Rattle.std.proofs.Common.{◌≡◌, ℕ, ◌+◌, ◌<◌, ◌≤◌, true, false, inl, inr, ◌⊎◌, List, [], ◌∷◌, ◌++◌, length, refl, sym, ap, ◌∙◌, arith, ◌&&◌}
use Rattle.std.specs.Prelude.{◌==◌}
use Rattle.std.specs.Char.{is_ascii_digit}
use Rattle.std.specs.List.{list_all}
use Rattle.std.proofs.lemmas.Bool.{and_parts, and_from, or_cases, or_left, or_right, false≢true}
use Rattle.std.proofs.lemmas.Bool.Decides.{nat_tests}
use Rattle.std.proofs.lemmas.List.{append-nil, append_assoc, length-append}
use Rattle.std.proofs.lemmas.List.Folds.{list_all-append}
use Rattle.qasm_lex.specs.declared.tokens.TokenKind.{TokenKind}
use Rattle.qasm_lex.specs.declared.tokens.TokenKind.TheVariants.{Int, Real}
use Rattle.qasm_lex.specs.Runs.{begins}
use Rattle.qasm_lex.specs.Tokens.{HasExponent, HasPoint, IsLongest, BeginsNoToken, IsToken, are_digits, are_signed_digits, is_exponent, is_exponent_letter, is_sign_byte}
use Rattle.qasm_lex.specs.Fronts.{IsPerhapsExponent, begins_number}
use Rattle.qasm_lex.proofs.RunLemmas.{IsRun, heads, run-unique, run_longest-length, tails}
use Rattle.qasm_lex.proofs.KindLemmas.{digit_begins, letter_no_digit, number_front, whole_digits}

-- ---- exponents

sign_no_digit : (c : ℕ) → is_sign_byte c ≡ true → is_ascii_digit c ≡ true → ⊥
sign_no_digit c sign digit = grind (arith, nat_tests)

no_sign : (c : ℕ) → is_ascii_digit c ≡ true → is_sign_byte c ≡ false
no_sign c digit = grind (arith, nat_tests)

letter_no_point : (c : ℕ) → is_exponent_letter c ≡ true → c ≡ 46 → ⊥
letter_no_point c is point = grind (arith, nat_tests)

-- at least one digit
digits_some : (front : List ℕ) → are_digits front ≡ true → 0 < length front
digits_some [] all = absurd (false≢true all)
digits_some (d ∷ front) all = omega arith

digits_all : (front : List ℕ) → are_digits front ≡ true → list_all is_ascii_digit front ≡ true
digits_all [] all = absurd (false≢true all)
digits_all (d ∷ front) all = all

pub digits_from : (front : List ℕ) → list_all is_ascii_digit front ≡ true → 0 < length front → are_digits front ≡ true
digits_from [] all some = absurd (omega arith)
digits_from (d ∷ front) all some = all

-- digits at the front of a text are within its run
within : (digits follows front rest : List ℕ) → IsRun is_ascii_digit digits follows → digits ++ follows ≡ front ++ rest
    → are_digits front ≡ true → (0 < length digits) × (length front ≤ length digits)
within digits follows front rest run is all =
    let fits = run_longest-length is_ascii_digit digits follows front rest run is (digits_all front all) in
    let some = digits_some front all in (omega arith, fits)

-- behind a sign
pub signed_within :
    (s : ℕ) (digits follows front rest : List ℕ) → is_sign_byte s ≡ true → IsRun is_ascii_digit digits follows
    → s ∷ (digits ++ follows) ≡ front ++ rest → are_signed_digits front ≡ true → (0 < length digits) × (length front ≤ 1 + length digits)
signed_within s digits follows [] rest sign run is all = absurd (false≢true all)
signed_within s digits follows (c ∷ front) rest sign run is all = by_case (or_cases (are_digits (c ∷ front)) (is_sign_byte c && are_digits front) all)
  where
    by_case : (are_digits (c ∷ front) ≡ true) ⊎ ((is_sign_byte c && are_digits front) ≡ true) → (0 < length digits) × (length (c ∷ front) ≤ 1 + length digits)
    by_case (inl digit) =
        absurd (sign_no_digit s sign (ap is_ascii_digit (heads is) ∙ (and_parts (is_ascii_digit c) (list_all is_ascii_digit front) digit).0))
    by_case (inr both) =
        let found = within digits follows front rest run (tails is) (and_parts (is_sign_byte c) (are_digits front) both).1 in
        (found.0, omega (arith, found.1))

-- with no sign
pub plain_within :
    (digits follows front rest : List ℕ) → begins is_sign_byte (digits ++ follows) ≡ false → IsRun is_ascii_digit digits follows
    → digits ++ follows ≡ front ++ rest → are_signed_digits front ≡ true → (0 < length digits) × (length front ≤ length digits)
plain_within digits follows [] rest plain run is all = absurd (false≢true all)
plain_within digits follows (c ∷ front) rest plain run is all = by_case (or_cases (are_digits (c ∷ front)) (is_sign_byte c && are_digits front) all)
  where
    by_case : (are_digits (c ∷ front) ≡ true) ⊎ ((is_sign_byte c && are_digits front) ≡ true) → (0 < length digits) × (length (c ∷ front) ≤ length digits)
    by_case (inl digit) = within digits follows (c ∷ front) rest run is digit
    by_case (inr both) =
        let sign : is_sign_byte c ≡ true = (and_parts (is_sign_byte c) (are_digits front) both).0 in
        absurd (false≢true (sym plain ∙ ap (begins is_sign_byte) is ∙ sign))

-- no exponent where none of its letters stands
pub no_exponent : (text : List ℕ) → begins is_exponent_letter text ≡ false → IsPerhapsExponent [] text
no_exponent text other = record { perhaps = inl refl; longest = none }
  where
    none : (front rest : List ℕ) → text ≡ front ++ rest → is_exponent front ≡ true → length front ≤ 0
    none [] rest is ex = omega arith
    none (c ∷ front) rest is ex =
        absurd (false≢true (sym other ∙ ap (begins is_exponent_letter) is ∙ (and_parts (is_exponent_letter c) (are_signed_digits front) ex).0))

-- none where no digit stands behind the letter and the sign
pub no_signed_exponent :
    (e s : ℕ) (follows : List ℕ) → is_sign_byte s ≡ true → begins is_ascii_digit follows ≡ false → IsPerhapsExponent [] (e ∷ s ∷ follows)
no_signed_exponent e s follows sign other = record { perhaps = inl refl; longest = none }
  where
    none : (front rest : List ℕ) → e ∷ s ∷ follows ≡ front ++ rest → is_exponent front ≡ true → length front ≤ 0
    none [] rest is ex = omega arith
    none (c ∷ front) rest is ex =
        let found = signed_within s [] follows front rest sign (record { passes = refl; ends = other }) (tails is)
        (and_parts (is_exponent_letter c) (are_signed_digits front) ex).1 in
        absurd (omega (arith, found.0))

pub no_plain_exponent :
    (e : ℕ) (follows : List ℕ) → begins is_sign_byte follows ≡ false → begins is_ascii_digit follows ≡ false → IsPerhapsExponent [] (e ∷ follows)
no_plain_exponent e follows plain other = record { perhaps = inl refl; longest = none }
  where
    none : (front rest : List ℕ) → e ∷ follows ≡ front ++ rest → is_exponent front ≡ true → length front ≤ 0
    none [] rest is ex = omega arith
    none (c ∷ front) rest is ex =
        let found = plain_within [] follows front rest plain (record { passes = refl; ends = other }) (tails is)
        (and_parts (is_exponent_letter c) (are_signed_digits front) ex).1 in
        absurd (omega (arith, found.0))

-- the letter, a sign and the run of digits
pub signed_exponent :
    (e s : ℕ) (digits follows : List ℕ) → is_exponent_letter e ≡ true → is_sign_byte s ≡ true → IsRun is_ascii_digit digits follows
    → 0 < length digits → IsPerhapsExponent (e ∷ s ∷ digits) follows
signed_exponent e s digits follows letter sign run some =
    let all = digits_from digits run.passes some in
    let signed : are_signed_digits (s ∷ digits) ≡ true =
    or_right (are_digits (s ∷ digits)) (is_sign_byte s && are_digits digits) (and_from (is_sign_byte s) (are_digits digits) sign all) in
    record { perhaps = inr (and_from (is_exponent_letter e) (are_signed_digits (s ∷ digits)) letter signed); longest = longest }
  where
    longest : (front rest : List ℕ) → e ∷ s ∷ (digits ++ follows) ≡ front ++ rest → is_exponent front ≡ true → length front ≤ length (e ∷ s ∷ digits)
    longest [] rest is ex = omega arith
    longest (c ∷ front) rest is ex =
        let found = signed_within s digits follows front rest sign run (tails is)
        (and_parts (is_exponent_letter c) (are_signed_digits front) ex).1 in
        omega (arith, found.1)

-- the letter and the run of digits
pub plain_exponent :
    (e : ℕ) (digits follows : List ℕ) → is_exponent_letter e ≡ true → IsRun is_ascii_digit digits follows
    → 0 < length digits → IsPerhapsExponent (e ∷ digits) follows
plain_exponent e [] follows letter run some = absurd (omega arith)
plain_exponent e (d ∷ digits) follows letter run some =
    let signed : are_signed_digits (d ∷ digits) ≡ true =
    or_left (are_digits (d ∷ digits)) (is_sign_byte d && are_digits digits) run.passes in
    record { perhaps = inr (and_from (is_exponent_letter e) (are_signed_digits (d ∷ digits)) letter signed); longest = longest }
  where
    digit : is_ascii_digit d ≡ true
    digit = (and_parts (is_ascii_digit d) (list_all is_ascii_digit digits) run.passes).0

    plain : is_sign_byte d ≡ false
    plain = no_sign d digit

    longest : (front rest : List ℕ) → e ∷ d ∷ (digits ++ follows) ≡ front ++ rest → is_exponent front ≡ true → length front ≤ length (e ∷ d ∷ digits)
    longest [] rest is ex = omega arith
    longest (c ∷ front) rest is ex =
        let found = plain_within (d ∷ digits) follows front rest plain run (tails is)
        (and_parts (is_exponent_letter c) (are_signed_digits front) ex).1 in
        omega (arith, found.1)

-- ---- numbers

-- an exponent is no digit and no point at its front
exponent_ends : (exponent rest : List ℕ) → is_exponent exponent ≡ true → begins is_ascii_digit (exponent ++ rest) ≡ false
exponent_ends [] rest is = absurd (false≢true is)
exponent_ends (c ∷ cs) rest is = letter_no_digit c (and_parts (is_exponent_letter c) (are_signed_digits cs) is).0

exponent_no_point : (exponent rest more : List ℕ) → is_exponent exponent ≡ true → exponent ++ rest ≡ 46 ∷ more → ⊥
exponent_no_point [] rest more is same = false≢true is
exponent_no_point (c ∷ cs) rest more is same = letter_no_point c (and_parts (is_exponent_letter c) (are_signed_digits cs) is).0 (heads same)

fraction_digits : (whole fraction : List ℕ) → are_digits (whole ++ fraction) ≡ true → list_all is_ascii_digit fraction ≡ true
fraction_digits [] fraction all = digits_all fraction all
fraction_digits (d ∷ whole) fraction all =
    (and_parts (list_all is_ascii_digit (d ∷ whole)) (list_all is_ascii_digit fraction)
    (sym (list_all-append is_ascii_digit (d ∷ whole) fraction) ∙ all)).1

digits_begin : (whole more : List ℕ) → list_all is_ascii_digit whole ≡ true → 0 < length whole → begins begins_number (whole ++ more) ≡ true
digits_begin [] more all some = absurd (omega arith)
digits_begin (d ∷ whole) more all some = digit_begins d (and_parts (is_ascii_digit d) (list_all is_ascii_digit whole) all).0

point_begins : (whole more : List ℕ) → list_all is_ascii_digit whole ≡ true → begins begins_number (whole ++ 46 ∷ more) ≡ true
point_begins [] more all = refl
point_begins (d ∷ whole) more all = digit_begins d (and_parts (is_ascii_digit d) (list_all is_ascii_digit whole) all).0

-- where a text is a run of digits and no point follows, the longest token is that run and perhaps an exponent
module _ (whole exponent follows : List ℕ) (run : IsRun is_ascii_digit whole (exponent ++ follows)) (some : 0 < length whole)
    (perhaps : IsPerhapsExponent exponent follows) (no_point : (more : List ℕ) → exponent ++ follows ≡ 46 ∷ more → ⊥) where
  longest_whole :
      (kind : TokenKind) (front rest : List ℕ) → (whole ++ exponent) ++ follows ≡ front ++ rest → IsToken kind front
      → length front ≤ length (whole ++ exponent)
  longest_whole kind front rest same token =
      by_shape (number_front kind (whole ++ (exponent ++ follows)) front rest (digits_begin whole (exponent ++ follows) run.passes some) is token)
    where
      is : whole ++ (exponent ++ follows) ≡ front ++ rest
      is = sym (append_assoc whole exponent follows) ∙ same

      by_shape : (are_digits front ≡ true) ⊎ (HasPoint front ⊎ HasExponent front) → length front ≤ length (whole ++ exponent)
      by_shape (inl all) =
          let fits = run_longest-length is_ascii_digit whole (exponent ++ follows) front rest run is (digits_all front all) in
          omega (arith, fits, length-append whole exponent)
      by_shape (inr (inl point)) =
          let cut : whole ++ (exponent ++ follows) ≡ point.whole ++ 46 ∷ ((point.fraction ++ point.exponent) ++ rest) =
          is ∙ ap (λ (t : List ℕ). t ++ rest) point.bytes_are ∙ append_assoc point.whole (46 ∷ (point.fraction ++ point.exponent)) rest in
          let parts = run-unique is_ascii_digit whole (exponent ++ follows) point.whole (46 ∷ ((point.fraction ++ point.exponent) ++ rest)) run
          (record { passes = whole_digits point.whole point.fraction point.digits; ends = refl }) cut in
          absurd (no_point ((point.fraction ++ point.exponent) ++ rest) parts.1)
      by_shape (inr (inr power)) =
          let cut : whole ++ (exponent ++ follows) ≡ power.whole ++ (power.exponent ++ rest) =
          is ∙ ap (λ (t : List ℕ). t ++ rest) power.bytes_are ∙ append_assoc power.whole power.exponent rest in
          let parts = run-unique is_ascii_digit whole (exponent ++ follows) power.whole (power.exponent ++ rest) run
          (record { passes = digits_all power.whole power.digits; ends = exponent_ends power.exponent rest power.is_exponent }) cut in
          let fits = perhaps.longest power.exponent rest parts.1 power.is_exponent in
          omega (arith, fits, ap length power.bytes_are, ap length parts.0, length-append whole exponent, length-append power.whole power.exponent)

-- the run alone is a whole number
pub longest_int :
    (whole follows : List ℕ) → IsRun is_ascii_digit whole follows → 0 < length whole → IsPerhapsExponent [] follows
    → begins (λ c. c == 46) follows ≡ false → IsLongest Int whole follows
longest_int whole follows run some perhaps other =
    record { token = digits_from whole run.passes some; longest = longest }
  where
    longest : (kind : TokenKind) (front rest : List ℕ) → whole ++ follows ≡ front ++ rest → IsToken kind front → length front ≤ length whole
    longest kind front rest same token =
        let nil = append-nil whole in
        let fits = longest_whole whole [] follows run some perhaps (λ more is. false≢true (sym other ∙ ap (begins (λ c. c == 46)) is)) kind front rest
        (ap (λ (t : List ℕ). t ++ follows) nil ∙ same) token in
        omega (arith, fits, ap length nil)

-- with an exponent it is a real one
pub longest_power :
    (whole exponent follows : List ℕ) → IsRun is_ascii_digit whole (exponent ++ follows) → 0 < length whole → IsPerhapsExponent exponent follows
    → 0 < length exponent → begins (λ c. c == 46) (exponent ++ follows) ≡ false → IsLongest Real (whole ++ exponent) follows
longest_power whole exponent follows run some perhaps power other =
    record {
      token = inr (record {
        whole = whole;
        exponent = exponent;
        digits = digits_from whole run.passes some;
        is_exponent = there perhaps.perhaps;
        bytes_are = refl;
      });
      longest = longest_whole whole exponent follows run some perhaps (λ more is. false≢true (sym other ∙ ap (begins (λ c. c == 46)) is));
    }
  where
    there : (exponent ≡ []) ⊎ (is_exponent exponent ≡ true) → is_exponent exponent ≡ true
    there (inl nil) = absurd (omega (arith, ap length nil))
    there (inr is) = is

-- where the run ends at a point, the digits behind it belong to the number, and perhaps an exponent
module _ (whole digits exponent follows : List ℕ) (run : IsRun is_ascii_digit whole (46 ∷ (digits ++ (exponent ++ follows))))
    (inner : IsRun is_ascii_digit digits (exponent ++ follows)) (perhaps : IsPerhapsExponent exponent follows) where
  point_text : (whole ++ 46 ∷ (digits ++ exponent)) ++ follows ≡ whole ++ 46 ∷ (digits ++ (exponent ++ follows))
  point_text =
      append_assoc whole (46 ∷ (digits ++ exponent)) follows
      ∙ ap (λ (t : List ℕ). whole ++ 46 ∷ t) (append_assoc digits exponent follows)

  point_length : length (whole ++ 46 ∷ (digits ++ exponent)) ≡ length whole + (1 + (length digits + length exponent))
  point_length = omega (arith, length-append whole (46 ∷ (digits ++ exponent)), length-append digits exponent)

  fraction_fits :
      (fraction power rest : List ℕ) → list_all is_ascii_digit fraction ≡ true → (power ≡ []) ⊎ (is_exponent power ≡ true)
      → digits ++ (exponent ++ follows) ≡ (fraction ++ power) ++ rest → length fraction + length power ≤ length digits + length exponent
  fraction_fits fraction power rest all (inl nil) same =
      let cut : digits ++ (exponent ++ follows) ≡ fraction ++ (power ++ rest) = same ∙ append_assoc fraction power rest in
      let fits = run_longest-length is_ascii_digit digits (exponent ++ follows) fraction (power ++ rest) inner cut all in
      omega (arith, fits, ap length nil)
  fraction_fits fraction power rest all (inr is) same =
      let cut : digits ++ (exponent ++ follows) ≡ fraction ++ (power ++ rest) = same ∙ append_assoc fraction power rest in
      let parts = run-unique is_ascii_digit digits (exponent ++ follows) fraction (power ++ rest) inner
      (record { passes = all; ends = exponent_ends power rest is }) cut in
      let fits = perhaps.longest power rest parts.1 is in
      omega (arith, fits, ap length parts.0)

  longest_point :
      (kind : TokenKind) (front rest : List ℕ) → (whole ++ 46 ∷ (digits ++ exponent)) ++ follows ≡ front ++ rest → IsToken kind front
      → length front ≤ length (whole ++ 46 ∷ (digits ++ exponent))
  longest_point kind front rest same token =
      by_shape (number_front kind (whole ++ 46 ∷ (digits ++ (exponent ++ follows))) front rest
      (point_begins whole (digits ++ (exponent ++ follows)) run.passes) is token)
    where
      is : whole ++ 46 ∷ (digits ++ (exponent ++ follows)) ≡ front ++ rest
      is = sym point_text ∙ same

      by_shape : (are_digits front ≡ true) ⊎ (HasPoint front ⊎ HasExponent front) → length front ≤ length (whole ++ 46 ∷ (digits ++ exponent))
      by_shape (inl all) =
          let fits = run_longest-length is_ascii_digit whole (46 ∷ (digits ++ (exponent ++ follows))) front rest run is (digits_all front all) in
          omega (arith, fits, point_length)
      by_shape (inr (inl point)) =
          let cut : whole ++ 46 ∷ (digits ++ (exponent ++ follows)) ≡ point.whole ++ 46 ∷ ((point.fraction ++ point.exponent) ++ rest) =
          is ∙ ap (λ (t : List ℕ). t ++ rest) point.bytes_are ∙ append_assoc point.whole (46 ∷ (point.fraction ++ point.exponent)) rest in
          let parts = run-unique is_ascii_digit whole (46 ∷ (digits ++ (exponent ++ follows))) point.whole (46 ∷ ((point.fraction ++ point.exponent) ++ rest)) run
          (record { passes = whole_digits point.whole point.fraction point.digits; ends = refl }) cut in
          let fits = fraction_fits point.fraction point.exponent rest (fraction_digits point.whole point.fraction point.digits) point.perhaps (tails parts.1) in
          omega (
            arith,
            fits,
            ap length parts.0,
            ap length point.bytes_are,
            point_length,
            length-append point.whole (46 ∷ (point.fraction ++ point.exponent)),
            length-append point.fraction point.exponent,
          )
      by_shape (inr (inr power)) =
          let cut : whole ++ 46 ∷ (digits ++ (exponent ++ follows)) ≡ power.whole ++ (power.exponent ++ rest) =
          is ∙ ap (λ (t : List ℕ). t ++ rest) power.bytes_are ∙ append_assoc power.whole power.exponent rest in
          let parts = run-unique is_ascii_digit whole (46 ∷ (digits ++ (exponent ++ follows))) power.whole (power.exponent ++ rest) run
          (record { passes = digits_all power.whole power.digits; ends = exponent_ends power.exponent rest power.is_exponent }) cut in
          absurd (exponent_no_point power.exponent rest (digits ++ (exponent ++ follows)) power.is_exponent (sym parts.1))

  pub longest_real : are_digits (whole ++ digits) ≡ true → IsLongest Real (whole ++ 46 ∷ (digits ++ exponent)) follows
  longest_real some =
      record {
        token = inl (record {
          whole = whole;
          fraction = digits;
          exponent = exponent;
          digits = some;
          perhaps = perhaps.perhaps;
          bytes_are = refl;
        });
        longest = longest_point;
      }

-- a point alone begins no token
pub lone_point : (follows : List ℕ) → begins is_ascii_digit follows ≡ false → BeginsNoToken (46 ∷ follows)
lone_point follows other = λ kind front rest same token. by_shape front rest same (number_front kind (46 ∷ follows) front rest refl same token)
  where
    digit_first : (fraction rest : List ℕ) → are_digits fraction ≡ true → follows ≡ fraction ++ rest → ⊥
    digit_first [] rest all is = false≢true all
    digit_first (d ∷ fraction) rest all is =
        false≢true (sym other ∙ ap (begins is_ascii_digit) is ∙ (and_parts (is_ascii_digit d) (list_all is_ascii_digit fraction) all).0)

    no_whole : (whole rest : List ℕ) → are_digits whole ≡ true → 46 ∷ follows ≡ whole ++ rest → ⊥
    no_whole [] rest all is = false≢true all
    no_whole (d ∷ whole) rest all is =
        false≢true (ap is_ascii_digit (heads is) ∙ (and_parts (is_ascii_digit d) (list_all is_ascii_digit whole) all).0)

    by_point : (whole fraction rest : List ℕ) → are_digits (whole ++ fraction) ≡ true → 46 ∷ follows ≡ whole ++ 46 ∷ (fraction ++ rest) → ⊥
    by_point [] fraction rest all is = digit_first fraction rest all (tails is)
    by_point (d ∷ whole) fraction rest all is =
        false≢true (ap is_ascii_digit (heads is) ∙ (and_parts (is_ascii_digit d) (list_all is_ascii_digit (whole ++ fraction)) all).0)

    by_shape :
        (front rest : List ℕ) → 46 ∷ follows ≡ front ++ rest → (are_digits front ≡ true) ⊎ (HasPoint front ⊎ HasExponent front) → ⊥
    by_shape front rest same (inl all) = no_whole front rest all same
    by_shape front rest same (inr (inl point)) =
        by_point point.whole point.fraction (point.exponent ++ rest) point.digits
        (same ∙ ap (λ (t : List ℕ). t ++ rest) point.bytes_are ∙ append_assoc point.whole (46 ∷ (point.fraction ++ point.exponent)) rest
        ∙ ap (λ (t : List ℕ). point.whole ++ 46 ∷ t) (append_assoc point.fraction point.exponent rest))
    by_shape front rest same (inr (inr power)) =
        no_whole power.whole (power.exponent ++ rest) power.digits
        (same ∙ ap (λ (t : List ℕ). t ++ rest) power.bytes_are ∙ append_assoc power.whole power.exponent rest)
