-- The tokens of a text with their bytes, and what one may be.
use Rattle.std.specs.Prelude.{ℕ, ◌+◌, ◌*◌, ◌-◌, ◌<◌, ◌≤◌, ◌==◌, Bool, true, false, ◌&&◌, ◌||◌, not, min, List, [], ◌∷◌, length, map, take, drop, codes}
use Rattle.std.specs.Char.{is_ascii_lowercase}
use Rattle.std.specs.List.{list_all, list_any}
use Rattle.std.specs.Str.{bytes_eq}
use Rattle.qasm_lex.specs.declared.tokens.Token.{Token}
use Rattle.qccd_circuit.specs.Item.{is_angle_byte}
use Rattle.qasm_lex.specs.declared.tokens.TokenKind.{TokenKind}
use Rattle.qasm_lex.specs.declared.tokens.TokenKind.TheVariants as token
use Rattle.qasm_reader.specs.declared.kinds.Opening.{Opening}
use Rattle.qasm_reader.specs.declared.kinds.Opening.TheVariants as opening

-- a token: what it is, its first byte's place, and its bytes
pub record Lexeme : Type 0 where
  pub kind : TokenKind
  pub at : ℕ
  pub bytes : List ℕ

-- the token's bytes are in the text
abbrev pub LiesIn : List ℕ → Token → Type 0
LiesIn text t = (t.start < t.end) × (t.end ≤ length text)

abbrev pub lexeme : List ℕ → Token → Lexeme
lexeme text t = record { kind = t.kind; at = t.start; bytes = take (t.end - t.start) (drop t.start text) }

abbrev pub lexemes : List ℕ → List Token → List Lexeme
lexemes text ts = map (lexeme text) ts

-- kinds have numbers, so that they can be compared
abbrev pub rank : TokenKind → ℕ
rank token.Word = 0
rank token.Int = 1
rank token.Real = 2
rank token.Text = 3
rank token.Semi = 4
rank token.Comma = 5
rank token.LParen = 6
rank token.RParen = 7
rank token.LBracket = 8
rank token.RBracket = 9
rank token.LBrace = 10
rank token.RBrace = 11
rank token.Plus = 12
rank token.Minus = 13
rank token.Times = 14
rank token.Over = 15
rank token.Power = 16
rank token.Arrow = 17
rank token.Equal = 18

-- the token is of this kind
abbrev pub is : TokenKind → Lexeme → Bool
is kind l = rank l.kind == rank kind

-- it is of this kind and has these bytes
abbrev pub is_exactly : TokenKind → List ℕ → Lexeme → Bool
is_exactly kind bytes l = is kind l && bytes_eq l.bytes bytes

-- the token's bytes may stand in an angle, unless it is a string or a comma
abbrev pub has_angle_bytes : Lexeme → Bool
has_angle_bytes l = is token.Text l || (is token.Comma l || list_all is_angle_byte l.bytes)

-- the six words that are functions
abbrev pub functions : List (List ℕ)
functions = codes "sin" ∷ codes "cos" ∷ codes "tan" ∷ codes "exp" ∷ codes "ln" ∷ codes "sqrt" ∷ []

abbrev pub is_function : List ℕ → Bool
is_function word = list_any (bytes_eq word) functions

-- the words that no register and no gate has as its name
abbrev pub reserved : List (List ℕ)
reserved =
    codes "include" ∷ codes "qreg" ∷ codes "creg" ∷ codes "gate" ∷ codes "opaque" ∷ codes "measure" ∷ codes "reset"
    ∷ codes "barrier" ∷ codes "if" ∷ codes "pi" ∷ functions

abbrev pub is_reserved : List ℕ → Bool
is_reserved word = list_any (bytes_eq word) reserved

abbrev pub begins_small : List ℕ → Bool
begins_small [] = false
begins_small (c ∷ cs) = is_ascii_lowercase c

-- a word that begins with a small letter and is not reserved
abbrev pub is_identifier : Lexeme → Bool
is_identifier l = is token.Word l && begins_small l.bytes && not (is_reserved l.bytes)

-- the value of digits; above 4,294,967,295 it counts as that
abbrev pub number_after : ℕ → List ℕ → ℕ
number_after n [] = n
number_after n (c ∷ cs) = number_after (min 4294967295 (n * 10 + (c - 48))) cs

abbrev pub number : List ℕ → ℕ
number bytes = number_after 0 bytes

-- what the first word of a statement begins
abbrev pub opening_in : List (List ℕ × Opening) → List ℕ → Opening
opening_in [] word = opening.Gate
opening_in (row ∷ rows) word = elim (bytes_eq word row.0) as (λ _. Opening) [ true ↦ row.1 | false ↦ opening_in rows word ]

abbrev pub openings : List (List ℕ × Opening)
openings =
    (codes "include", opening.Include) ∷ (codes "qreg", opening.Qreg) ∷ (codes "creg", opening.Creg)
    ∷ (codes "measure", opening.Measure) ∷ (codes "reset", opening.Reset) ∷ (codes "barrier", opening.Barrier)
    ∷ (codes "gate", opening.Later) ∷ (codes "opaque", opening.Later) ∷ (codes "if", opening.Later)
    ∷ []

abbrev pub opening_of : List ℕ → Opening
opening_of word = opening_in openings word
