-- Bits that stand side by side.
use Rattle.std.proofs.Common.{◌≡◌, ℕ, zero, suc, ◌+◌, ◌<◌, ◌≤◌, ◌&&◌, nat_le, nat_lt, arith, ◌∷◌, length, get_or}
use Rattle.std.proofs.lemmas.Bool.Decides.{nat_tests}
use Rattle.std.specs.List.{All}
use Rattle.qccd_base.specs.declared.names.Bit.{Bit}
use Rattle.qccd_circuit.specs.Item.{bits_from}
use Rattle.qccd_circuit.specs.Sharing.{has_bit}

-- a bit is among n bits from the first where it is at or after it, and before the end
pub has_bit-bits_from : (first n : ℕ) (b : Bit) → has_bit (bits_from first n) b ≡ (nat_le first b.0 && nat_lt b.0 (first + n))
has_bit-bits_from first zero b = grind (arith, nat_tests)
has_bit-bits_from first (suc n) b = let e = has_bit-bits_from (first + 1) n b in grind (arith, nat_tests)

-- the first of the bits, and those after it
pub bits_from-next : (first n m : ℕ) → n ≡ m + 1 → bits_from first n ≡ record { 0 = first } ∷ bits_from (first + 1) m
bits_from-next first n m e = grind arith

pub length-bits_from : (first n : ℕ) → length (bits_from first n) ≡ n
length-bits_from first zero = grind arith
length-bits_from first (suc n) = let e = length-bits_from (first + 1) n in grind arith

pub get_or-bits_from : (first n k : ℕ) (d : Bit) → k < n → (get_or (bits_from first n) k d).0 ≡ first + k
get_or-bits_from first zero k d h = absurd (omega arith)
get_or-bits_from first (suc n) zero d h = grind arith
get_or-bits_from first (suc n) (suc k) d h = let e = get_or-bits_from (first + 1) n k d (omega arith) in grind arith

-- each of the bits is below a number where the end is not above it
pub All-bits_from : (first n m : ℕ) → first + n ≤ m → All (λ b. b.0 < m) (bits_from first n)
All-bits_from first n m h k d lt =
    let small : k < n = omega (arith, length-bits_from first n) in omega (arith, get_or-bits_from first n k d small)

-- and where there is a bit, the other way as well
pub end-bits_from : (first n m : ℕ) → 1 ≤ n → All (λ b. b.0 < m) (bits_from first n) → first + n ≤ m
end-bits_from first zero m h all = absurd (omega arith)
end-bits_from first (suc n) m h all =
    let at : (get_or (bits_from first (suc n)) n (record { 0 = 0 })).0 < m =
    all n (record { 0 = 0 }) (omega (arith, length-bits_from first (suc n))) in
    omega (arith, get_or-bits_from first (suc n) n (record { 0 = 0 }) (omega arith))
