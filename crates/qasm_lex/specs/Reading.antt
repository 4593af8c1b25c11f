-- The tokens of a text, and the first fault of one that has none.
use Rattle.std.specs.Prelude.{◌≡◌, ◌≢◌, ℕ, ◌+◌, ◌-◌, ◌<◌, ◌≤◌, List, [], ◌∷◌, ◌++◌, length, take, drop, slice_get, Option, Some, None}
use Rattle.qasm_lex.specs.declared.tokens.Token.{Token}
use Rattle.qasm_lex.specs.declared.fault.LexFault.{LexFault}
use Rattle.qasm_lex.specs.declared.fault.LexFault.TheVariants.{BadByte, OpenString, NoMemory}
use Rattle.qasm_lex.specs.Tokens.{BeginsNoToken, IsLongest, IsToken}
use Rattle.qasm_lex.specs.Gaps.{IsGap}

-- What is left of a text from a place on is a gap, the token's bytes, which are the longest token there, and what follows it.
pub record IsNext (left : List ℕ) (place : ℕ) (t : Token) (follows : List ℕ) : Type 0 where
  pub gap : List ℕ
  pub bytes : List ℕ
  pub left_is : left ≡ gap ++ (bytes ++ follows)
  pub is_gap : IsGap gap (bytes ++ follows)
  pub is_longest : IsLongest t.kind bytes follows
  pub start : t.start ≡ place + length gap
  pub end : t.end ≡ t.start + length bytes

-- What is left is a gap, and then no token begins, though the text does not end there.
pub record IsStuck (left : List ℕ) (place at : ℕ) : Type 0 where
  pub gap : List ℕ
  pub follows : List ℕ
  pub left_is : left ≡ gap ++ follows
  pub is_gap : IsGap gap follows
  pub some : 0 < length follows
  pub no_token : BeginsNoToken follows
  pub at_is : at ≡ place + length gap

-- What is left of a text from a place on: these tokens, one after another, each behind its gap. Then the text ends, or it is
-- stuck at a byte.
abbrev pub Reads : List ℕ → ℕ → List Token → Option ℕ → Type 0
Reads left place [] None = IsGap left []
Reads left place [] (Some at) = IsStuck left place at
Reads left place (t ∷ ts) stuck = (follows : List ℕ) × IsNext left place t follows × Reads follows t.end ts stuck

-- the whole text is these tokens
abbrev pub AreTokens : List ℕ → List Token → Type 0
AreTokens text ts = Reads text 0 ts None

-- this is the first byte that begins no token, behind those that do
abbrev pub IsStuckAt : List ℕ → ℕ → Type 0
IsStuckAt text at = (ts : List Token) × Reads text 0 ts (Some at)

-- The first fault of a text. A quote that begins no token is that of a string which is not closed on its line.
abbrev pub IsFirstFault : List ℕ → LexFault → Type 0
IsFirstFault text (BadByte at) = IsStuckAt text at × (slice_get text at ≢ Some 34)
IsFirstFault text (OpenString at) = IsStuckAt text at × (slice_get text at ≡ Some 34)
IsFirstFault text NoMemory = ⊥

-- memory may run out at each text
abbrev pub IsFaultOf : List ℕ → LexFault → Type 0
IsFaultOf text (BadByte at) = IsFirstFault text (BadByte at)
IsFaultOf text (OpenString at) = IsFirstFault text (OpenString at)
IsFaultOf text NoMemory = Unit {0}

-- the token's bytes in its text are a token of its kind
pub record IsTokenOf (text : List ℕ) (t : Token) : Type 0 where
  pub some : t.start < t.end
  pub fits : t.end ≤ length text
  pub token : IsToken t.kind (take (t.end - t.start) (drop t.start text))
