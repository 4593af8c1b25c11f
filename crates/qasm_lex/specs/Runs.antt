-- What a list of bytes begins with.
use Rattle.std.specs.Prelude.{◌==◌, ℕ, Bool, false, ◌&&◌, List, [], ◌∷◌}

-- the first byte is there and passes the test
abbrev pub begins : (ℕ → Bool) → List ℕ → Bool
begins p [] = false
begins p (c ∷ rest) = p c

-- the first two bytes are these
abbrev pub begins_pair : ℕ → ℕ → List ℕ → Bool
begins_pair a b [] = false
begins_pair a b (c ∷ []) = false
begins_pair a b (c ∷ d ∷ rest) = c == a && d == b
