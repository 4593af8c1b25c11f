-- A text as lines, and a line as words.
use Rattle.std.specs.Prelude.{ℕ, zero, suc, ◌+◌, List, [], ◌∷◌, ◌++◌, ◌==◌, Option, Some, None, Result, Ok, Err}
use Rattle.std.specs.List.{slice_split, join_with_byte, flat_map}
use Rattle.op_text.specs.declared.kind.AsmKind.{AsmKind}
use Rattle.op_text.specs.declared.kind.AsmKind.TheVariants.{Count}
use Rattle.op_text.specs.Steps.{◌>>=◌}

-- the words of a line
abbrev pub words_of : List ℕ → List (List ℕ)
words_of line = slice_split (λ c. c == 32) line

-- What is left of a text: the number of the next line, and the texts between the line feeds that are left. The last of these
-- is no line, since no line feed ends it.
pub record Unread : Type 0 where
  pub number : ℕ
  pub parts : List (List ℕ)

abbrev pub all_of : List ℕ → Unread
all_of text = record { number = 1; parts = slice_split (λ c. c == 10) text }

-- the line and the kind of a refusal
pub record Refusal : Type 0 where
  pub line : ℕ
  pub kind : AsmKind

abbrev pub refused : ℕ → AsmKind → Refusal
refused line kind = record { line = line; kind = kind }

-- what was read of a text and what is left, or the refusal of the first offending line
abbrev pub Steps : Type 0 → Type 0
Steps A = Result (A × Unread) Refusal

abbrev pub told : {A : Type 0} → ℕ → Result A AsmKind → List (List ℕ) → Steps A
told number (Ok value) parts = Ok (value, record { number = number + 1; parts = parts })
told number (Err kind) parts = Err (refused number kind)

-- the next line and the texts behind it, where a line feed ends it
abbrev pub next_line : List (List ℕ) → Option (List ℕ × List (List ℕ))
next_line [] = None
next_line (unended ∷ []) = None
next_line (line ∷ part ∷ parts) = Some (line, part ∷ parts)

-- the next line, read by its words; a line that is missing or not ended is Count before its words are looked at
abbrev pub read_next : {A : Type 0} → (List (List ℕ) → Result A AsmKind) → ℕ → Option (List ℕ × List (List ℕ)) → Steps A
read_next read number None = Err (refused number Count)
read_next read number (Some next) = told number (read (words_of next.0)) next.1

abbrev pub line_in : {A : Type 0} → (List (List ℕ) → Result A AsmKind) → ℕ → List (List ℕ) → Steps A
line_in read number parts = read_next read number (next_line parts)

abbrev pub line_at : {A : Type 0} → (List (List ℕ) → Result A AsmKind) → Unread → Steps A
line_at read left = line_in read left.number left.parts

-- so many lines, each of which is read by what those before it tell
abbrev pub each : {S A : Type 0} → (S → List (List ℕ) → Result A AsmKind) → (S → A → S) → ℕ → S → Unread → Steps (List A)
each read next zero s left = Ok ([], left)
each read next (suc n) s left = line_at (read s) left >>= λ first. each read next n (next s first.0) first.1 >>= λ more. Ok (first.0 ∷ more.0, more.1)

-- so many lines, each read with its number, from k on
abbrev pub numbered : {A : Type 0} → (ℕ → List (List ℕ) → Result A AsmKind) → ℕ → ℕ → Unread → Steps (List A)
numbered read n k left = each read (λ number value. number + 1) n k left

-- nothing follows
abbrev pub ends_in : {A : Type 0} → A → ℕ → List (List ℕ) → Result A Refusal
ends_in value number [] = Err (refused number Count)
ends_in value number ([] ∷ []) = Ok value
ends_in value number ((c ∷ cs) ∷ []) = Err (refused number Count)
ends_in value number (line ∷ part ∷ parts) = Err (refused number Count)

abbrev pub ended : {A : Type 0} → A → Unread → Result A Refusal
ended value left = ends_in value left.number left.parts

-- ---- writing

-- the line of some words
abbrev pub line_text : List (List ℕ) → List ℕ
line_text words = join_with_byte 32 words

-- lines of words, each ended by a line feed
abbrev pub lines_text : List (List (List ℕ)) → List ℕ
lines_text lines = flat_map (λ words. line_text words ++ 10 ∷ []) lines

-- the lines of some values, each with its number, from k on
abbrev pub numbered_lines : {A : Type 0} → (ℕ → A → List (List ℕ)) → ℕ → List A → List (List (List ℕ))
numbered_lines words k [] = []
numbered_lines words k (value ∷ more) = words k value ∷ numbered_lines words (k + 1) more

-- ---- lines in a row

-- some lines in a row: how they are read from what is left of a text, and the lines of a value
pub record Block (A : Type 0) : Type 0 where
  pub read : Unread → Steps A
  pub lines : A → List (List (List ℕ))

abbrev pub line_block : {A : Type 0} → (List (List ℕ) → Result A AsmKind) → (A → List (List ℕ)) → Block A
line_block read words = record { read = line_at read; lines = λ value. words value ∷ [] }

-- some lines, and then others, which may depend on what the first tell
abbrev pub read_then : {A B : Type 0} → Block A → (A → Block B) → Unread → Steps (A × B)
read_then p q left = p.read left >>= λ a. (q a.0).read a.1 >>= λ b. Ok ((a.0, b.0), b.1)

infixr 20 ◌▹◌
abbrev pub ◌▹◌ : {A B : Type 0} → Block A → (A → Block B) → Block (A × B)
p ▹ q = record { read = read_then p q; lines = λ v. p.lines v.0 ++ (q v.0).lines v.1 }

-- the block is the whole text
abbrev pub read_all : {A : Type 0} → Block A → List ℕ → Result A Refusal
read_all block text = block.read (all_of text) >>= λ a. ended a.0 a.1
