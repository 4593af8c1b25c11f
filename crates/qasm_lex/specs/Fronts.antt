-- What the parts of the lexer find at the front of a text, in numbers of bytes.
use Rattle.std.specs.Prelude.{◌≡◌, ◌≢◌, ◌==◌, ℕ, ◌+◌, ◌<◌, ◌≤◌, Bool, not, ◌&&◌, ◌||◌, ◌⊎◌, IsTrue, List, [], ◌∷◌, ◌++◌, length, take, drop, slice_get, Some, if◌then◌else◌}
use Rattle.std.specs.Char.{is_ascii_alphabetic, is_ascii_digit}
use Rattle.std.specs.List.{prefix_len}
use Rattle.qasm_lex.specs.declared.tokens.Token.{Token}
use Rattle.qasm_lex.specs.declared.tokens.TokenKind.{TokenKind}
use Rattle.qasm_lex.specs.declared.fault.LexFault.{LexFault}
use Rattle.qasm_lex.specs.declared.fault.LexFault.TheVariants.{BadByte, OpenString, NoMemory}
use Rattle.qasm_lex.specs.Runs.{begins}
use Rattle.qasm_lex.specs.Tokens.{IsLongest, is_exponent, is_sign_byte}
use Rattle.qasm_lex.specs.Gaps.{IsGap}
use Rattle.qasm_lex.specs.Reading.{IsNext, IsStuck}

-- ---- gaps

-- the first bytes of the text, so many, are white space or a comment, and a gap goes on behind them
pub record BeginsGap (text : List ℕ) (len : ℕ) : Type 0 where
  pub some : 0 < len
  pub fits : len ≤ length text
  pub goes_on : (gap follows : List ℕ) → drop len text ≡ gap ++ follows → IsGap gap follows → IsGap (take len text ++ gap) follows

-- the first bytes of the text, so many, are the whole gap
pub record GapAtFront (text : List ℕ) (len : ℕ) : Type 0 where
  pub fits : len ≤ length text
  pub is_gap : IsGap (take len text) (drop len text)

-- ---- tokens

-- a digit or a point
abbrev pub begins_number : ℕ → Bool
begins_number c = is_ascii_digit c || c == 46

-- any byte with which no word, no number and no string can begin
abbrev pub begins_no_long : ℕ → Bool
begins_no_long c = not (is_ascii_alphabetic c || (begins_number c || c == 34))

-- such a byte with which no sign of two bytes begins either: a token that begins with it is it alone
abbrev pub begins_alone : ℕ → Bool
begins_alone c = begins_no_long c && not (c == 45 || c == 61)

-- the first bytes of the text, so many, are the longest token
pub record TokenAtFront (text : List ℕ) (kind : TokenKind) (len : ℕ) : Type 0 where
  pub fits : len ≤ length text
  pub is_longest : IsLongest kind (take len text) (drop len text)

-- the bytes are the longest exponent that stands there, or none where none does
pub record IsPerhapsExponent (bytes follows : List ℕ) : Type 0 where
  pub perhaps : (bytes ≡ []) ⊎ IsTrue (is_exponent bytes)
  pub longest : (front rest : List ℕ) → bytes ++ follows ≡ front ++ rest → IsTrue (is_exponent front) → length front ≤ length bytes

-- the first bytes of the text, so many, are the longest exponent, or there are none and there is none
pub record ExponentAtFront (text : List ℕ) (len : ℕ) : Type 0 where
  pub fits : len ≤ length text
  pub is_longest : IsPerhapsExponent (take len text) (drop len text)

-- how many bytes the sign takes
abbrev pub sign_size : List ℕ → ℕ
sign_size text = if begins is_sign_byte text then 1 else 0

-- how many bytes the point and the digits behind it take
abbrev pub fraction_size : List ℕ → ℕ
fraction_size [] = 0
fraction_size (c ∷ rest) = if c == 46 then 1 + prefix_len is_ascii_digit rest else 0

-- ---- places

-- The token behind the gap at a place, with the text that follows it.
pub record IsNextIn (text : List ℕ) (place : ℕ) (t : Token) : Type 0 where
  pub fits : t.end ≤ length text
  pub is_later : place < t.end
  pub is_next : IsNext (drop place text) place t (drop t.end text)

-- the fault that reading meets behind the gap at a place
abbrev pub IsFaultFrom : List ℕ → ℕ → LexFault → Type 0
IsFaultFrom text place (BadByte at) = IsStuck (drop place text) place at × (slice_get text at ≢ Some 34)
IsFaultFrom text place (OpenString at) = IsStuck (drop place text) place at × (slice_get text at ≡ Some 34)
IsFaultFrom text place NoMemory = ⊥
