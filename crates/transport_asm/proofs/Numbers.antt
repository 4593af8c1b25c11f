-- The words of numbers.
use Rattle.std.proofs.Common.{◌≡◌, ◌≢◌, ℕ, zero, suc, ◌^◌, ◌<◌, ◌≤◌, Bool, true, false, not, ◌&&◌, ◌||◌, ◌==◌, List, [], ◌∷◌, length, get_or, decimal, Ok, Err, refl, sym, subst, arith, inl, inr, rules}
use Rattle.std.specs.Char.{is_ascii_digit}
use Rattle.std.specs.List.{list_all}
use Rattle.std.specs.Str.Parse.{digits_value}
use Rattle.std.proofs.lemmas.Str.Parse.{IsNumeralModel, numerals_by_value}
use Rattle.std.proofs.lemmas.Fmt.{decimal_digit}
use Rattle.transport_asm.proofs.WideDigits.{nonempty_wide, first_wide, digits_wide, value_wide, decimal_of_digits}
use Rattle.std.proofs.lemmas.Bool.{ltb-false, le-ltb, cases_Bool, ne_eqb}
use Rattle.op_text.specs.declared.kind.AsmKind.{AsmKind}
use Rattle.op_text.specs.declared.kind.AsmKind.TheVariants.{Word, Number}
use Rattle.op_text.specs.Steps.{judged}
use Rattle.op_text.specs.Slots.{are_digits, has_leading_zero, number_in, is_outside, number_slot}

pub own : IsNumeralModel (λ ds. list_all is_ascii_digit ds ≡ true) (digits_value 10)
own = numerals_by_value (λ ds. list_all is_ascii_digit ds ≡ true) (search rules)

-- no check applies
pub two_pass : {A : Type 0} (a b : Bool) (k l : AsmKind) (x y : A) → judged ((k, a) ∷ (l, b) ∷ []) x ≡ Ok y → (a ≡ false) × (b ≡ false) × (x ≡ y)
two_pass true b k l x y e = absurd cc
two_pass false true k l x y e = absurd cc
two_pass false false k l x y e = (refl, refl, cc)

-- digits, and no number outside
pub inside : (d o : Bool) → (d && o) ≡ false → not d ≡ false → (d ≡ true) × (o ≡ false)
inside true true e f = absurd cc
inside true false e f = (refl, refl)
inside false o e f = absurd cc

pub neither : (a b : Bool) → (a || b) ≡ false → (a ≡ false) × (b ≡ false)
neither true b e = absurd cc
neither false b e = (refl, e)

apart : (d : ℕ) → d ≡ 48 → (d == 48) ≡ false → ⊥
apart d is none = let same : (48 == 48) ≡ false = subst (λ (k : ℕ). (k == 48) ≡ false) is none in cc

one_digit : (word : List ℕ) → are_digits word ≡ true → has_leading_zero word ≡ false → (0 < length word) × (list_all is_ascii_digit word ≡ true) × (get_or word 0 0 ≡ 48 → length word ≡ 1)
one_digit [] digits none = absurd cc
one_digit (d ∷ []) digits none = (omega arith, digits, λ _. refl)
one_digit (d ∷ e ∷ ds) digits none = (omega arith, digits, λ zero_first. absurd (apart d zero_first none))

-- digits that write a number up to the limit are its text
pub decimal-number_in : (most : ℕ) (word : List ℕ) → most < 10 ^ 64 → are_digits word ≡ true → is_outside most word ≡ false → (word ≡ decimal (number_in word)) × (number_in word ≤ most)
decimal-number_in most word small digits within =
    let both = neither _ _ within in
    let first = one_digit word digits both.0 in
    let le : number_in word ≤ most = ltb-false _ _ both.1 in
    (sym (decimal_of_digits own word first.1 first.0 first.2 (omega arith)), le)

pub number_takes : (most : ℕ) (word : List ℕ) (n : ℕ) → most < 10 ^ 64 → (number_slot most).read word ≡ Ok n → (word ≡ decimal n) × (n ≤ most)
number_takes most word n small e =
    let passed = two_pass _ _ Number Word (number_in word) n e in
    let test = inside _ _ passed.0 passed.1 in
    subst (λ (k : ℕ). (word ≡ decimal k) × (k ≤ most)) passed.2 (decimal-number_in most word small test.0 test.1)

-- ---- and back

are_digits-from : (ds : List ℕ) → 0 < length ds → list_all is_ascii_digit ds ≡ true → are_digits ds ≡ true
are_digits-from [] some all = absurd (omega arith)
are_digits-from (d ∷ ds) some all = all

not_led : (ds : List ℕ) → 48 < get_or ds 0 0 → has_leading_zero ds ≡ false
not_led [] above = refl
not_led (d ∷ []) above = refl
not_led (d ∷ e ∷ ds) above = ne_eqb d 48 (λ is. absurd (omega arith))

no_leading_zero : (n : ℕ) → n < 10 ^ 64 → has_leading_zero (decimal n) ≡ false
no_leading_zero zero small = rw (decimal_digit 0 (omega arith)) refl
no_leading_zero (suc n) small = not_led (decimal (suc n)) (first_wide (suc n) (omega arith) small)

pub are_digits-decimal : (n : ℕ) → n < 10 ^ 64 → are_digits (decimal n) ≡ true
are_digits-decimal n small = are_digits-from (decimal n) (nonempty_wide n small) (digits_wide own n small)

pub number_in-decimal : (n : ℕ) → n < 10 ^ 64 → number_in (decimal n) ≡ n
number_in-decimal n small = value_wide own n small

pub is_outside-decimal : (most n : ℕ) → n < 10 ^ 64 → n ≤ most → is_outside most (decimal n) ≡ false
is_outside-decimal most n small le = rw (no_leading_zero n small, number_in-decimal n small) (le-ltb _ _ le)

pub number_again : (most n : ℕ) → most < 10 ^ 64 → n ≤ most → (number_slot most).read (decimal n) ≡ Ok n
number_again most n small le =
    let below : n < 10 ^ 64 = omega arith in
    rw (are_digits-decimal n below, is_outside-decimal most n below le, number_in-decimal n below) refl

-- ---- what is refused

pub outside_without : (most : ℕ) (word : List ℕ) → most < 10 ^ 64 → are_digits word ≡ true → ((n : ℕ) → n ≤ most → word ≢ decimal n) → is_outside most word ≡ true
outside_without most word small digits none =
    elim (cases_Bool (is_outside most word)) [
      | inl is ↦ is
      | inr is ↦ let both = decimal-number_in most word small digits is in absurd (none (number_in word) both.1 both.0)
    ]

pub refused_digits : (most : ℕ) (word : List ℕ) → most < 10 ^ 64 → are_digits word ≡ true → ((n : ℕ) → n ≤ most → word ≢ decimal n) → (number_slot most).read word ≡ Err Number
refused_digits most word small digits none = rw (digits, outside_without most word small digits none) refl

pub refused_word : (most : ℕ) (word : List ℕ) → are_digits word ≡ false → (number_slot most).read word ≡ Err Word
refused_word most word digits = rw digits refl
