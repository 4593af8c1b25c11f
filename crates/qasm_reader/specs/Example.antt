-- Small texts, and tokens cut from a text by computation.
use Rattle.std.specs.Prelude.{ℕ, zero, suc, ◌+◌, ◌-◌, ◌==◌, ◌||◌, true, false, if◌then◌else◌, List, [], ◌∷◌, ◌++◌, length, take, drop, codes, replicate, Result, Ok, Err}
use Rattle.std.specs.Char.{is_ascii_alphabetic, is_ascii_digit, is_ascii_whitespace}
use Rattle.std.specs.List.{prefix_len}
use Rattle.qasm_lex.specs.declared.tokens.TokenKind.{TokenKind}
use Rattle.qasm_lex.specs.declared.tokens.TokenKind.TheVariants as token
use Rattle.qasm_lex.specs.Runs.{begins, begins_pair}
use Rattle.qasm_lex.specs.Tokens.{is_word_byte, is_text_byte, is_exponent_letter}
use Rattle.qasm_lex.specs.Fronts.{fraction_size, sign_size}
use Rattle.qasm_reader.specs.declared.fault.QasmKind.{QasmKind}
use Rattle.qasm_reader.specs.Lexeme.{Lexeme}
use Rattle.qasm_reader.specs.Check.{Fault}
use Rattle.qasm_reader.specs.Reading.{Answer, answer}

abbrev pub exponent_size : List ℕ → ℕ
exponent_size [] = 0
exponent_size (c ∷ rest) =
    if is_exponent_letter c then (if begins is_ascii_digit (drop (sign_size rest) rest) then 1 + sign_size rest + prefix_len is_ascii_digit (drop (sign_size rest) rest) else 0) else 0

-- a token's kind and size
pub record Cut : Type 0 where
  pub kind : TokenKind
  pub size : ℕ

abbrev pub cut : TokenKind → ℕ → Cut
cut kind size = record { kind = kind; size = size }

abbrev pub number_cut : ℕ → ℕ → ℕ → Cut
number_cut w f e = cut (if f + e == 0 then token.Int else token.Real) (w + f + e)

abbrev pub number_at : List ℕ → Cut
number_at text =
    let w : ℕ = prefix_len is_ascii_digit text in
    let f : ℕ = fraction_size (drop w text) in
    number_cut w f (exponent_size (drop (w + f) text))

abbrev pub sign_kind : ℕ → TokenKind
sign_kind c =
    if c == 59 then token.Semi else (if c == 44 then token.Comma else (if c == 40 then token.LParen else (if c == 41 then token.RParen
    else (if c == 91 then token.LBracket else (if c == 93 then token.RBracket else (if c == 123 then token.LBrace else (if c == 125 then token.RBrace
    else (if c == 43 then token.Plus else (if c == 45 then token.Minus else (if c == 42 then token.Times else (if c == 47 then token.Over else token.Power)))))))))))

abbrev pub cut_at : ℕ → List ℕ → Cut
cut_at c text =
    if is_ascii_alphabetic c then cut token.Word (prefix_len is_word_byte text)
    else (if is_ascii_digit c || c == 46 then number_at text
    else (if c == 34 then cut token.Text (2 + prefix_len is_text_byte (drop 1 text))
    else (if begins_pair 45 62 text then cut token.Arrow 2 else (if begins_pair 61 61 text then cut token.Equal 2 else cut (sign_kind c) 1))))

-- The tokens from a place on; those bytes that a token still covers are skipped.
abbrev pub cut_from : ℕ → ℕ → List ℕ → List Lexeme
cut_from skip at [] = []
cut_from (suc skip) at (c ∷ text) = cut_from skip (at + 1) text
cut_from zero at (c ∷ text) = elim (is_ascii_whitespace c) as (λ _. List Lexeme) [
  | true ↦ cut_from zero (at + 1) text
  | false ↦
      let piece : Cut = cut_at c (c ∷ text) in
      record { kind = piece.kind; at = at; bytes = take piece.size (c ∷ text) } ∷ cut_from (piece.size - 1) (at + 1) text
]

abbrev pub answer_to : List ℕ → Answer
answer_to text = answer (length text) (cut_from 0 0 text)

abbrev pub refused : ℕ → QasmKind → Answer
refused at kind = Err (record { at = at; kind = kind })

abbrev pub head : List ℕ
head = codes "OPENQASM 2.0;\ninclude \"qelib1.inc\";\n"

abbrev pub after_head : List ℕ → Answer
after_head text = answer_to (head ++ text)

-- so many opening parentheses
abbrev pub many_open : ℕ → List ℕ
many_open n = replicate n 40

-- an angle of so many opening parentheses
unfoldable pub long_text : ℕ → List ℕ
long_text n = head ++ codes "qreg q[1];\nrx(" ++ many_open n

abbrev pub after_registers : List ℕ → Answer
after_registers text = after_head (codes "qreg q[2];qreg r[3];creg c[2];creg d[1];" ++ text)

-- how many items, qubits and bits
abbrev pub size_of : Answer → Result (ℕ × ℕ × ℕ) Fault
size_of (Ok c) = Ok (length c.items, c.qubits, c.bits)
size_of (Err f) = Err f
