-- How decimal texts begin, and what `parse` makes of bytes that begin so.
use Rattle.std.proofs.Common.{◌≡◌, ◌≢◌, ◌^◌, ◌<◌, ◌≤◌, ◌==◌, ℕ, zero, suc, true, false, not, ◌&&◌, ◌||◌, List, [], ◌∷◌, length, get_or, decimal, Result, Ok, Err, inl, inr, refl, sym, ap, subst, ◌∙◌, arith}
use Rattle.std.specs.Option.{IfSome}
use Rattle.std.specs.Result.{result_ok}
use Rattle.std.specs.Str.Parse.{digits_value, without_leading_plus, ParsesUnsigned}
use Rattle.std.proofs.lemmas.Bool.{ne_eqb}
use Rattle.std.proofs.lemmas.Bool.Decides.{eqb_tells}
use Rattle.std.proofs.lemmas.Fmt.{decimal_is_IsNumeral, decimal_digit, decimal-digits_value, first_decimal}
use Rattle.std.proofs.lemmas.Str.Parse.{numerals_by_value, tells_digits, without_leading_plus_none}
use Rattle.qccd_base.specs.Numbers.{is_led}

led_if : (bytes : List ℕ) → 0 < length bytes → 48 ≤ get_or bytes 0 0 → (get_or bytes 0 0 ≡ 48 → length bytes ≡ 1) → is_led bytes ≡ true
led_if [] some low lone = absurd (omega arith)
led_if (byte ∷ bytes) some low lone = elim (eqb_tells byte 48) [
  | inl is ↦ rw (ne_eqb byte 43 (λ e. omega (arith, e)), is.0) (none_left (length bytes) (omega (arith, lone is.1)))
  | inr apart ↦ rw (ne_eqb byte 43 (λ e. omega (arith, e)), apart.0) refl
]
  where
    none_left : (n : ℕ) → n ≡ 0 → (n == 0) ≡ true
    none_left n is = rw is refl

-- a decimal text begins as a number that is written does
pub led-decimal : (n : ℕ) → n < 2 ^ 64 → is_led (decimal n) ≡ true
led-decimal zero small = rw (decimal_digit 0 (omega arith)) refl
led-decimal (suc n) small =
    let first = first_decimal (suc n) (omega arith) small in
    led_if (decimal (suc n)) (decimal_is_IsNumeral (suc n) small).0.0 (omega arith) (λ e. absurd (omega (arith, first, e)))

no_plus : (bytes : List ℕ) → is_led bytes ≡ true → get_or bytes 0 0 ≢ 43
no_plus [] led e = absurd (cc)
no_plus (byte ∷ bytes) led e = absurd (let led_so : false ≡ true = subst (λ (b : ℕ). (not (b == 43) && (not (b == 48) || (length bytes == 0))) ≡ true) e led in cc)

lone_zero : (bytes : List ℕ) → is_led bytes ≡ true → get_or bytes 0 0 ≡ 48 → length bytes ≡ 1
lone_zero [] led e = absurd (cc)
lone_zero (byte ∷ bytes) led e =
    let led_so : (length bytes == 0) ≡ true = subst (λ (b : ℕ). (not (b == 43) && (not (b == 48) || (length bytes == 0))) ≡ true) e led in
    elim (eqb_tells (length bytes) 0) [ inl is ↦ omega (arith, is.1) | inr apart ↦ absurd (let no = apart.0 in cc) ]

-- bytes that begin so, and from which `parse` reads a number, are its decimal text
written : {E : Type 0} → (bytes : List ℕ) (read : Result ℕ E) (n : ℕ) → ParsesUnsigned 64 10 bytes read → read ≡ Ok n → is_led bytes ≡ true → bytes ≡ decimal n
written bytes (Err e) n parses is led = absurd (cc)
written bytes (Ok m) n parses is led =
    let same : without_leading_plus bytes ≡ bytes = without_leading_plus_none bytes (no_plus bytes led) in
    let numeral = rw same at parses.0.0 in
    let small : digits_value 10 bytes < 2 ^ 64 = rw same at parses.0.1 in
    let value : m ≡ digits_value 10 bytes = rw same at parses.1 in
    let text = decimal-digits_value (numerals_by_value _ tells_digits) bytes numeral.1 numeral.0 (lone_zero bytes led) small in
    let given : m ≡ n = cc is in
    sym text ∙ ap decimal (sym value ∙ given)

pub all_written : {E : Type 0} → (bytes : List ℕ) (read : Result ℕ E) → ParsesUnsigned 64 10 bytes read
    → IfSome (result_ok read) (λ n. is_led bytes ≡ true → bytes ≡ decimal n)
all_written {E} bytes (Ok m) parses = λ led. written {E = E} bytes (Ok m) m parses refl led
all_written bytes (Err e) parses = tt
