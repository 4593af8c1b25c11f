-- Which bytes are a token, and which token is the longest.
use Rattle.std.specs.Prelude.{◌≡◌, ◌==◌, ℕ, ◌≤◌, Bool, false, not, ◌&&◌, ◌||◌, ◌⊎◌, IsTrue, List, [], ◌∷◌, ◌++◌, length, codes}
use Rattle.std.specs.Char.{is_ascii_alphabetic, is_ascii_alphanumeric, is_ascii_digit}
use Rattle.std.specs.List.{list_all}
use Rattle.qasm_lex.specs.declared.tokens.TokenKind.{TokenKind}
use Rattle.qasm_lex.specs.declared.tokens.TokenKind.TheVariants.{Word, Int, Real, Text, Semi, Comma, LParen, RParen, LBracket, RBracket, LBrace, RBrace, Plus, Minus, Times, Over, Power, Arrow, Equal}

-- a letter, a digit or an underscore
abbrev pub is_word_byte : ℕ → Bool
is_word_byte c = is_ascii_alphanumeric c || c == 95

-- a letter, then letters, digits and underscores
abbrev pub is_word : List ℕ → Bool
is_word [] = false
is_word (c ∷ cs) = is_ascii_alphabetic c && list_all is_word_byte cs

-- digits, at least one
abbrev pub are_digits : List ℕ → Bool
are_digits [] = false
are_digits (d ∷ ds) = list_all is_ascii_digit (d ∷ ds)

-- e or E
abbrev pub is_exponent_letter : ℕ → Bool
is_exponent_letter c = c == 101 || c == 69

-- + or -
abbrev pub is_sign_byte : ℕ → Bool
is_sign_byte c = c == 43 || c == 45

-- perhaps a sign, and digits
abbrev pub are_signed_digits : List ℕ → Bool
are_signed_digits [] = false
are_signed_digits (c ∷ cs) = are_digits (c ∷ cs) || (is_sign_byte c && are_digits cs)

-- e or E, perhaps a sign, and digits
abbrev pub is_exponent : List ℕ → Bool
is_exponent [] = false
is_exponent (c ∷ cs) = is_exponent_letter c && are_signed_digits cs

-- digits, a point and digits, at least one digit in all, and perhaps an exponent
pub record HasPoint (bytes : List ℕ) : Type 0 where
  pub whole : List ℕ
  pub fraction : List ℕ
  pub exponent : List ℕ
  pub digits : IsTrue (are_digits (whole ++ fraction))
  pub perhaps : (exponent ≡ []) ⊎ IsTrue (is_exponent exponent)
  pub bytes_are : bytes ≡ whole ++ 46 ∷ (fraction ++ exponent)

-- digits and an exponent
pub record HasExponent (bytes : List ℕ) : Type 0 where
  pub whole : List ℕ
  pub exponent : List ℕ
  pub digits : IsTrue (are_digits whole)
  pub is_exponent : IsTrue (is_exponent exponent)
  pub bytes_are : bytes ≡ whole ++ exponent

-- any byte but a quote and a line feed
abbrev pub is_text_byte : ℕ → Bool
is_text_byte c = not (c == 34 || c == 10)

-- a quote, such bytes, and a quote
pub record IsQuoted (bytes : List ℕ) : Type 0 where
  pub inner : List ℕ
  pub plain : IsTrue (list_all is_text_byte inner)
  pub bytes_are : bytes ≡ 34 ∷ (inner ++ 34 ∷ [])

-- the bytes are a token of this kind
abbrev pub IsToken : TokenKind → List ℕ → Type 0
IsToken Word bytes = IsTrue (is_word bytes)
IsToken Int bytes = IsTrue (are_digits bytes)
IsToken Real bytes = HasPoint bytes ⊎ HasExponent bytes
IsToken Text bytes = IsQuoted bytes
IsToken Semi bytes = bytes ≡ codes ";"
IsToken Comma bytes = bytes ≡ codes ","
IsToken LParen bytes = bytes ≡ codes "("
IsToken RParen bytes = bytes ≡ codes ")"
IsToken LBracket bytes = bytes ≡ codes "["
IsToken RBracket bytes = bytes ≡ codes "]"
IsToken LBrace bytes = bytes ≡ codes "{"
IsToken RBrace bytes = bytes ≡ codes "}"
IsToken Plus bytes = bytes ≡ codes "+"
IsToken Minus bytes = bytes ≡ codes "-"
IsToken Times bytes = bytes ≡ codes "*"
IsToken Over bytes = bytes ≡ codes "/"
IsToken Power bytes = bytes ≡ codes "^"
IsToken Arrow bytes = bytes ≡ codes "->"
IsToken Equal bytes = bytes ≡ codes "=="

-- Of all tokens with which the bytes and what follows them begin, these bytes are the longest.
pub record IsLongest (kind : TokenKind) (bytes follows : List ℕ) : Type 0 where
  pub token : IsToken kind bytes
  pub longest : (other : TokenKind) (front rest : List ℕ) → bytes ++ follows ≡ front ++ rest → IsToken other front → length front ≤ length bytes

-- no token begins the text
abbrev pub BeginsNoToken : List ℕ → Type 0
BeginsNoToken text = (kind : TokenKind) (front rest : List ℕ) → text ≡ front ++ rest → IsToken kind front → ⊥
