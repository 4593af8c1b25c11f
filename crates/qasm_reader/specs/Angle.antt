-- The tokens of an angle, one after another.
use Rattle.std.specs.Prelude.{◌≡◌, ℕ, zero, suc, ◌+◌, Bool, true, List, [], ◌∷◌, ◌++◌, ◌&&◌, ◌||◌, if◌then◌else◌, codes, Option, None, Some}
use Rattle.qasm_lex.specs.declared.tokens.TokenKind.TheVariants as token
use Rattle.qasm_reader.specs.declared.angle.Phase.{Phase}
use Rattle.qasm_reader.specs.declared.angle.Phase.TheVariants.{Part, Paren, Whole}
use Rattle.qasm_reader.specs.declared.angle.AngleState.{AngleState}
use Rattle.qasm_reader.specs.Lexeme.{Lexeme, is, is_exactly, is_function}

abbrev pub angle_state : Phase → ℕ → AngleState
angle_state phase depth = record { phase = phase; depth = depth }

abbrev pub is_constant : Lexeme → Bool
is_constant l = is token.Int l || (is token.Real l || is_exactly token.Word (codes "pi") l)

abbrev pub is_function_word : Lexeme → Bool
is_function_word l = is token.Word l && is_function l.bytes

abbrev pub is_operator : Lexeme → Bool
is_operator l = is token.Plus l || (is token.Minus l || (is token.Times l || (is token.Over l || is token.Power l)))

abbrev pub closes : ℕ → Lexeme → Option AngleState
closes zero l = None
closes (suc depth) l = if is token.RParen l then Some (angle_state Whole depth) else None

-- where the angle stands behind this token; none where it cannot stand there
abbrev pub angle_step : AngleState → Lexeme → Option AngleState
angle_step s l = elim s.phase as (λ _. Option AngleState) [
  | Part ↦
      if is token.Minus l then Some (angle_state Part s.depth)
      else (if is_constant l then Some (angle_state Whole s.depth)
      else (if is token.LParen l then Some (angle_state Part (s.depth + 1))
      else (if is_function_word l then Some (angle_state Paren s.depth) else None)))
  | Paren ↦ if is token.LParen l then Some (angle_state Part (s.depth + 1)) else None
  | Whole ↦ if is_operator l then Some (angle_state Part s.depth) else closes s.depth l
]

-- ---- which tokens are an angle

-- an angle, or what may stand behind its first part
pub data Shape : Type 0 where
  angle : Shape
  tail : Shape

-- The tokens are an angle: any number of `-`, then a number, pi, or an angle in parentheses, perhaps behind a function; then
-- nothing, or an operator and an angle.
pub data IsAngle : Shape → List Lexeme → Type 0 where
  minus : {a : List Lexeme} (m : Lexeme) → is token.Minus m ≡ true → IsAngle angle a → IsAngle angle (m ∷ a)
  constant : {t : List Lexeme} (n : Lexeme) → is_constant n ≡ true → IsAngle tail t → IsAngle angle (n ∷ t)
  parens :
      {a t : List Lexeme} (open_paren close : Lexeme) → is token.LParen open_paren ≡ true → IsAngle angle a → is token.RParen close ≡ true → IsAngle tail t
      → IsAngle angle (open_paren ∷ (a ++ close ∷ t))
  function :
      {a t : List Lexeme} (f open_paren close : Lexeme) → is_function_word f ≡ true → is token.LParen open_paren ≡ true → IsAngle angle a → is token.RParen close ≡ true
      → IsAngle tail t → IsAngle angle (f ∷ open_paren ∷ (a ++ close ∷ t))
  nothing : IsAngle tail []
  operator : {a : List Lexeme} (o : Lexeme) → is_operator o ≡ true → IsAngle angle a → IsAngle tail (o ∷ a)

-- the bytes of tokens, without spaces
abbrev pub joined_bytes : List Lexeme → List ℕ
joined_bytes [] = []
joined_bytes (l ∷ ls) = l.bytes ++ joined_bytes ls
