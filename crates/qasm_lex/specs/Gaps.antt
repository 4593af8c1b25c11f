-- White space and comments between tokens.
use Rattle.std.specs.Prelude.{◌≡◌, ◌==◌, ℕ, Bool, false, not, ◌&&◌, ◌||◌, IsTrue, List, [], ◌∷◌, ◌++◌}
use Rattle.std.specs.Char.{is_ascii_whitespace}
use Rattle.std.specs.List.{list_all}
use Rattle.qasm_lex.specs.Runs.{begins, begins_pair}

-- any byte but a line feed
abbrev pub is_line_byte : ℕ → Bool
is_line_byte c = not (c == 10)

-- white space or a comment, which begins with two slashes
abbrev pub begins_gap : List ℕ → Bool
begins_gap text = begins is_ascii_whitespace text || begins_pair 47 47 text

-- any byte with which no gap begins
abbrev pub is_solid : ℕ → Bool
is_solid c = not (is_ascii_whitespace c) && not (c == 47)

-- a byte of white space, and such a byte behind it
abbrev pub one_white : List ℕ → Bool
one_white [] = false
one_white (c ∷ []) = false
one_white (c ∷ d ∷ rest) = is_ascii_whitespace c && is_solid d

-- All the white space and all the comments that stand before what follows.
pub data IsGap : List ℕ → List ℕ → Type 0 where
  none : {follows : List ℕ} → begins_gap follows ≡ false → IsGap [] follows
  white : {c : ℕ} {gap follows : List ℕ} → IsTrue (is_ascii_whitespace c) → IsGap gap follows → IsGap (c ∷ gap) follows
  -- a comment has all the bytes up to the end of its line
  comment : (line : List ℕ) {gap : List ℕ} {follows : List ℕ} → IsTrue (list_all is_line_byte line) → begins is_line_byte (gap ++ follows) ≡ false → IsGap gap follows
      → IsGap (47 ∷ 47 ∷ (line ++ gap)) follows
