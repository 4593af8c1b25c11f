-- What is left of a line while its words are read, and what the functions that read words answer.
use Rattle.std.specs.Prelude.{◌≡◌, ◌==◌, ℕ, ◌+◌, List, [], length, Option, Some, None, Result, Ok, Err}
use Rattle.std.specs.List.{slice_split}
use Rattle.op_text.specs.declared.kind.AsmKind.{AsmKind}
use Rattle.transport_asm.specs.declared.faults.OpFault.{OpFault}
use Rattle.transport_asm.specs.declared.faults.OpFault.TheVariants.{Refused, NoMemory}
use Rattle.transport_asm.specs.Lines.{words_of}

-- what is left of a line as words
abbrev pub words_left : Option (List ℕ) → List (List ℕ)
words_left None = []
words_left (Some line) = words_of line

-- what is left of a text as parts between a byte
abbrev pub parts_left : ℕ → Option (List ℕ) → List (List ℕ)
parts_left byte None = []
parts_left byte (Some text) = slice_split (λ c. c == byte) text

-- how much of a line is left, the end of its last word included
abbrev pub size_left : Option (List ℕ) → ℕ
size_left None = 0
size_left (Some line) = 1 + length line

-- what a function returned, seen by view, is what reading gives
abbrev pub Gives : {X Y E : Type 0} → (X → Y) → Result X E → Result Y E → Type 0
Gives view (Ok x) read = read ≡ Ok (view x)
Gives view (Err kind) read = read ≡ Err kind

-- of memory nothing is said
abbrev pub FailsAt : {Y : Type 0} → OpFault → Result Y AsmKind → Type 0
FailsAt NoMemory read = Unit {0}
FailsAt (Refused kind) read = read ≡ Err kind

abbrev pub GivesOp : {X Y : Type 0} → (X → Y) → Result X OpFault → Result Y AsmKind → Type 0
GivesOp view (Ok x) read = read ≡ Ok (view x)
GivesOp view (Err fault) read = FailsAt fault read
