-- Words one after another.
use Rattle.std.specs.Prelude.{ℕ, List, [], ◌∷◌, ◌++◌, Bool, true, false, Result, Ok, Err, if◌then◌else◌}
use Rattle.op_text.specs.declared.kind.AsmKind.{AsmKind}
use Rattle.op_text.specs.declared.kind.AsmKind.TheVariants.{Word}
use Rattle.op_text.specs.Steps.{◌>>=◌}
use Rattle.op_text.specs.Slots.{Slot}

-- what was read of the words of a line, and the words that are left; or the refusal of the first offending word
abbrev pub Reading : Type 0 → Type 0
Reading A = Result (A × List (List ℕ)) AsmKind

-- some words in a row: how they are read from the front of a line's words, and the words of a value
pub record Shape (A : Type 0) : Type 0 where
  pub read : List (List ℕ) → Reading A
  pub words : A → List (List ℕ)

-- a word; where it is missing the refusal is Word
abbrev pub first_word : List (List ℕ) → Reading (List ℕ)
first_word [] = Err Word
first_word (word ∷ more) = Ok (word, more)

abbrev pub read_one : {A : Type 0} → Slot A → List (List ℕ) → Reading A
read_one s words = first_word words >>= λ word. s.read word.0 >>= λ value. Ok (value, word.1)

abbrev pub one : {A : Type 0} → Slot A → Shape A
one s = record { read = read_one s; words = λ value. s.text value ∷ [] }

-- one thing and then another
abbrev pub read_both : {A B : Type 0} → Shape A → Shape B → List (List ℕ) → Reading (A × B)
read_both p q words = p.read words >>= λ a. q.read a.1 >>= λ b. Ok ((a.0, b.0), b.1)

infixr 20 ◌▸◌
abbrev pub ◌▸◌ : {A B : Type 0} → Shape A → Shape B → Shape (A × B)
p ▸ q = record { read = read_both p q; words = λ v. p.words v.0 ++ q.words v.1 }

-- the value made of what was read
abbrev pub as_value : {A B : Type 0} → (A → B) → Reading A → Reading B
as_value f reading = reading >>= λ a. Ok (f a.0, a.1)

-- all words of a line, and no further one
abbrev pub is_end : List (List ℕ) → Bool
is_end [] = true
is_end (word ∷ more) = false

abbrev pub whole : {A : Type 0} → A → List (List ℕ) → Result A AsmKind
whole value words = if is_end words then Ok value else Err Word

abbrev pub read_line : {A : Type 0} → Shape A → List (List ℕ) → Result A AsmKind
read_line p words = p.read words >>= λ a. whole a.0 a.1
