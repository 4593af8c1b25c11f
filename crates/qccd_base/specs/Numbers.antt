-- How a number that is written begins.
use Rattle.std.specs.Prelude.{ℕ, Bool, false, not, ◌&&◌, ◌||◌, ◌==◌, List, [], ◌∷◌, length}

-- with no plus, and with a zero only where that is all
abbrev pub is_led : List ℕ → Bool
is_led [] = false
is_led (byte ∷ bytes) = not (byte == 43) && (not (byte == 48) || (length bytes == 0))
