-- The decimal text of a number of up to 128 bits is UTF-8.
use Rattle.std.proofs.Common.{◌^◌, ◌<◌, ℕ, decimal, arith}
use Rattle.std.specs.Prelude.{IsUtf8}
use Rattle.std.proofs.lemmas.Fmt.{IsAscii-decimal_wide}
use Rattle.std.proofs.lemmas.Str.{IsUtf8-from_ascii}

pub within : (n : ℕ) → n < 2 ^ 128 → n < 10 ^ 64
within n small = omega (arith, small)

pub IsUtf8-decimal_wide : (n : ℕ) → n < 2 ^ 128 → IsUtf8 (decimal n)
IsUtf8-decimal_wide n small = IsUtf8-from_ascii (decimal n) (IsAscii-decimal_wide n (within n small))
