-- What a decimal text is made of, and where it ends in a longer text. That it is not empty, and that two numbers with
-- one text are one, are std's `decimal_nonempty` and `decimal_injective` of `Rattle.std.proofs.lemmas.Fmt`.
use Rattle.std.proofs.Common.{◌≡◌, ◌^◌, ◌<◌, ◌≤◌, ℕ, List, [], ◌∷◌, ◌++◌, length, decimal, refl, subst, sym, arith}
use Rattle.std.specs.Prelude.{IsUtf8}
use Rattle.std.specs.Int.{IsInRange}
use Rattle.std.specs.List.{All, AllByRecursion}
use Rattle.std.specs.Str.Parse.{AllDigits}
use Rattle.std.proofs.lemmas.Fmt.{IsAscii-decimal, length-decimal-le, decimal_is_IsNumeral, decimal_injective}
use Rattle.std.proofs.lemmas.List.Elements.{All-from_recursion}
use Rattle.std.proofs.lemmas.Str.{IsUtf8-from_ascii}
use Rattle.std.proofs.lemmas.Str.Parse.{digit_from_value}

-- the byte is a digit
abbrev pub IsDigit : ℕ → Type 0
IsDigit byte = IsInRange 48 57 byte

-- a decimal text is UTF-8
pub IsUtf8-decimal : (n : ℕ) → n < 2 ^ 64 → IsUtf8 (decimal n)
IsUtf8-decimal n small = IsUtf8-from_ascii (decimal n) (IsAscii-decimal n small)

-- of at most twenty bytes
pub length-decimal-le_twenty : (n : ℕ) → n < 2 ^ 64 → length (decimal n) ≤ 20
length-decimal-le_twenty n small = length-decimal-le 20 n (omega arith) (omega arith) small

-- each of which is a digit
pub digits-decimal : (n : ℕ) → n < 2 ^ 64 → AllByRecursion IsDigit (decimal n)
digits-decimal n small = by_range (decimal n) (decimal_is_IsNumeral n small).0.1
  where
    by_range : (bytes : List ℕ) → AllDigits 10 bytes → AllByRecursion IsDigit bytes
    by_range [] all = tt
    by_range (byte ∷ bytes) all = (digit_from_value byte all.0, by_range bytes all.1)

pub All-decimal : (n : ℕ) → n < 2 ^ 64 → All IsDigit (decimal n)
All-decimal n small = All-from_recursion IsDigit (decimal n) (digits-decimal n small)

-- the bytes are none, or begin with one of which P does not hold
abbrev pub Ends : (ℕ → Type 0) → List ℕ → Type 0
Ends P [] = Unit {0}
Ends P (byte ∷ _) = ¬ (P byte)

-- a text has at most one longest front of bytes with P, and so at most one rest
pub front-unique : (P : ℕ → Type 0) (front other rest next : List ℕ) → AllByRecursion P front → AllByRecursion P other
    → Ends P rest → Ends P next → front ++ rest ≡ other ++ next → (front ≡ other) × (rest ≡ next)
front-unique P [] [] rest next all_front all_other ends stops same = (refl, same)
front-unique P [] (byte ∷ other) [] next all_front all_other ends stops same = cc
front-unique P [] (byte ∷ other) (first ∷ rest) next all_front all_other ends stops same =
    let is : first ≡ byte = cc in absurd (ends (subst P (sym is) all_other.0))
front-unique P (byte ∷ front) [] rest [] all_front all_other ends stops same = cc
front-unique P (byte ∷ front) [] rest (first ∷ next) all_front all_other ends stops same =
    let is : byte ≡ first = cc in absurd (stops (subst P is all_front.0))
front-unique P (byte ∷ front) (first ∷ other) rest next all_front all_other ends stops same =
    let is : byte ≡ first = cc in
    let tails : front ++ rest ≡ other ++ next = cc in
    let parts = front-unique P front other rest next all_front.1 all_other.1 ends stops tails in (cc parts.0, parts.1)

-- so a text begins with at most one number, where no digit follows it
pub decimal-front-unique : (m n : ℕ) (rest next : List ℕ) → m < 2 ^ 64 → n < 2 ^ 64
    → Ends IsDigit rest → Ends IsDigit next → decimal m ++ rest ≡ decimal n ++ next → (m ≡ n) × (rest ≡ next)
decimal-front-unique m n rest next small_m small_n ends stops same =
    let parts = front-unique IsDigit (decimal m) (decimal n) rest next (digits-decimal m small_m) (digits-decimal n small_n) ends stops same in
    (decimal_injective m n small_m small_n parts.0, parts.1)
