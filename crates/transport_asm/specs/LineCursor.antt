-- What is left of a text while its lines are read, and what the functions that read lines answer.
use Rattle.std.specs.Prelude.{◌≡◌, ◌==◌, ℕ, ◌+◌, ◌<◌, ◌^◌, List, length, Option, Some, None, Result, Ok, Err}
use Rattle.std.specs.List.{slice_split}
use denote.Ref.{Bor}
use Rattle.transport_asm.specs.declared.lines.Lines.{Lines}
use Rattle.transport_asm.specs.declared.faults.AsmFault.{AsmFault}
use Rattle.transport_asm.specs.declared.faults.AsmFault.TheVariants.{Refused, NoMemory}
use Rattle.transport_asm.specs.declared.programs.RawProgram.{RawProgram}
use Rattle.qccd_base.specs.declared.names.Ion.{Ion}
use Rattle.op_text.specs.Steps.{◌>>=◌}
use Rattle.op_text.specs.Shapes.{Reading, first_word}
use Rattle.transport_asm.specs.Texts.{RawData, ion_at}
use Rattle.transport_asm.specs.Lines.{Unread, Refusal, refused}

abbrev pub parts_of : List ℕ → List (List ℕ)
parts_of text = slice_split (λ c. c == 10) text

-- what is left of a text, which begins with the line of the number
abbrev pub unread : Lines → Unread
unread lines = record { number = lines.number; parts = parts_of lines.rest.now }

abbrev pub next_of : Option (Bor (List ℕ) × Bor (List ℕ)) → Option (List ℕ × List (List ℕ))
next_of None = None
next_of (Some next) = Some (next.0.now, parts_of next.1.now)

-- of memory nothing is said
abbrev pub Fails : {Y : Type 0} → AsmFault → Result Y Refusal → Type 0
Fails NoMemory read = Unit {0}
Fails (Refused line kind) read = read ≡ Err (refused line kind)

abbrev pub GivesAt : {X Y : Type 0} → (X → Y) → Result X AsmFault → Result Y Refusal → Type 0
GivesAt view (Ok x) read = read ≡ Ok (view x)
GivesAt view (Err fault) read = Fails fault read

-- there is a number for each line that is left
abbrev pub IsNumbered : Lines → Type 0
IsNumbered lines = lines.number + length lines.rest.now < 2 ^ 32

-- an ion of a chain's line, of which `few` more may come
abbrev pub ion_next : ℕ → List (List ℕ) → Reading Ion
ion_next few words = first_word words >>= λ word. ion_at few word.0 >>= λ ion. Ok (ion, word.1)

-- a program that was read
abbrev pub raw_data : RawProgram → RawData
raw_data raw = record { qubits = raw.qubits; bits = raw.bits; mode = raw.mode; chains = raw.chains.items; ops = raw.ops.items }
