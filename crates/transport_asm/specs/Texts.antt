-- Program texts.
use Rattle.std.specs.Prelude.{◌≡◌, ℕ, ◌-◌, ◌&&◌, ◌||◌, not, ◌==◌, List, [], ◌∷◌, map, length, codes, decimal, bytes_eq, Option, Some, None, Result, Ok, Err, if◌then◌else◌}
use Rattle.qccd_base.specs.Names.{ion, trap}
use Rattle.op_text.specs.OpText.{trap_text}
use Rattle.qccd_base.specs.declared.names.Ion.{Ion}
use Rattle.qccd_base.specs.declared.names.Mode.{Mode}
use Rattle.qccd_base.specs.declared.names.Mode.TheVariants.{IonSwap, GateSwap}
use Rattle.op_table.specs.declared.kinds.OpKind.{OpKind}
use Rattle.op_text.specs.declared.kind.AsmKind.{AsmKind}
use Rattle.op_text.specs.declared.kind.AsmKind.TheVariants.{Header, Word, Number, NotBuilt, TooMany}
use Rattle.op_text.specs.Steps.{◌>>=◌, Check, judged}
use Rattle.op_text.specs.Slots.{Slot, are_digits, number_in, is_outside, greatest, number_slot, fixed_slot, size_slot, next_slot, next_trap_slot}
use Rattle.op_text.specs.Shapes.{read_one, one, ◌▸◌, read_line}
use Rattle.op_text.specs.Operations.{read_op, op_words}
use Rattle.transport_asm.specs.Lines.{Unread, Refusal, Steps, line_at, numbered, lines_text, numbered_lines, Block, line_block, ◌▹◌, read_all}

-- what a program text spells
pub record RawData : Type 0 where
  pub qubits : ℕ
  pub bits : ℕ
  pub mode : Option Mode
  pub chains : List (List Ion)
  pub ops : List OpKind

-- ---- the first line: no word of it is ever of kind Word

abbrev pub header_checks : List ℕ → List ℕ → List Check
header_checks name version =
    (Header, not (bytes_eq name (codes "QCCD") && are_digits version)) ∷ (Number, is_outside greatest version)
    ∷ (NotBuilt, not (number_in version == 1 || number_in version == 2)) ∷ []

abbrev pub first_line : List (List ℕ) → Result ℕ AsmKind
first_line [] = Err Header
first_line (name ∷ []) = Err Header
first_line (name ∷ version ∷ []) = judged (header_checks name version) (number_in version)
first_line (name ∷ version ∷ more ∷ words) = Err Header

-- ---- the mode, in the second version

abbrev pub mode_text : Mode → List ℕ
mode_text IonSwap = codes "ion"
mode_text GateSwap = codes "gate"

abbrev pub mode_checks : List ℕ → List Check
mode_checks word = (Word, not (bytes_eq word (codes "ion") || bytes_eq word (codes "gate"))) ∷ []

abbrev pub mode_in : List ℕ → Mode
mode_in word = if bytes_eq word (codes "ion") then IonSwap else GateSwap

abbrev pub mode_slot : Slot Mode
mode_slot = record { read = λ word. judged (mode_checks word) (mode_in word); text = mode_text }

abbrev pub mode_line : List (List ℕ) → Result Mode AsmKind
mode_line words = read_line (one (fixed_slot (codes "mode")) ▸ one mode_slot) words >>= λ v. Ok v.1

abbrev pub mode_words : Mode → List (List ℕ)
mode_words mode = codes "mode" ∷ mode_text mode ∷ []

-- what stands behind the first line: the line of the mode where that tells the second version
abbrev pub some_mode : Steps Mode → Steps (Option Mode)
some_mode steps = steps >>= λ mode. Ok (Some mode.0, mode.1)

abbrev pub mode_behind : ℕ × Unread → Steps (Option Mode)
mode_behind v = if v.0 == 2 then some_mode (line_at mode_line v.1) else Ok (None, v.1)

abbrev pub read_head : Unread → Steps (Option Mode)
read_head left = line_at first_line left >>= mode_behind

abbrev pub version_words : List ℕ → List (List ℕ)
version_words version = codes "QCCD" ∷ version ∷ []

abbrev pub head_lines : Option Mode → List (List (List ℕ))
head_lines None = version_words (codes "1") ∷ []
head_lines (Some mode) = version_words (codes "2") ∷ mode_words mode ∷ []

-- the version and the mode: a program without a mode is written in the first version
abbrev pub head_block : Block (Option Mode)
head_block = record { read = read_head; lines = head_lines }

-- ---- a line of a number

abbrev pub size_line : List ℕ → ℕ → List (List ℕ) → Result ℕ AsmKind
size_line name many words = read_line (one (fixed_slot name) ▸ one (size_slot many)) words >>= λ v. Ok v.1

-- ---- chains

-- the ions to the end of the line, of which `few` more may come
abbrev pub where_room : ℕ → ℕ → Result Ion AsmKind
where_room few n = if few == 0 then Err TooMany else Ok (ion n)

abbrev pub ion_at : ℕ → List ℕ → Result Ion AsmKind
ion_at few word = (number_slot 65535).read word >>= where_room few

abbrev pub ions_at : ℕ → List (List ℕ) → Result (List Ion) AsmKind
ions_at few [] = Ok []
ions_at few (word ∷ more) = ion_at few word >>= λ i. ions_at (few - 1) more >>= λ is. Ok (i ∷ is)

abbrev pub chain_line : ℕ → List (List ℕ) → Result (List Ion) AsmKind
chain_line t words = read_one (next_trap_slot t) words >>= λ first. ions_at 256 first.1

-- ---- operations

abbrev pub op_line : ℕ → List (List ℕ) → Result OpKind AsmKind
op_line k words = read_one (next_slot greatest k) words >>= λ first. read_op first.1

-- ---- the whole text

abbrev pub end_line : List (List ℕ) → Result (Unit {0}) AsmKind
end_line words = read_line (one (fixed_slot (codes "end"))) words

-- a line of a number, and then so many lines, numbered from 0
abbrev pub read_counted : {A : Type 0} → List ℕ → ℕ → (ℕ → List (List ℕ) → Result A AsmKind) → Unread → Steps (List A)
read_counted name many read left = line_at (size_line name many) left >>= λ n. numbered read n.0 0 n.1

abbrev pub size_words : List ℕ → ℕ → List (List ℕ)
size_words name n = name ∷ decimal n ∷ []

abbrev pub size : List ℕ → ℕ → Block ℕ
size name many = line_block (size_line name many) (size_words name)

abbrev pub counted : {A : Type 0} → List ℕ → ℕ → (ℕ → List (List ℕ) → Result A AsmKind) → (ℕ → A → List (List ℕ)) → Block (List A)
counted name many read words = record {
  read = read_counted name many read;
  lines = λ values. size_words name (length values) ∷ numbered_lines words 0 values;
}

abbrev pub chain_words : ℕ → List Ion → List (List ℕ)
chain_words t ions = trap_text (trap t) ∷ map (λ i. decimal i.0) ions

abbrev pub op_line_words : ℕ → OpKind → List (List ℕ)
op_line_words k op = decimal k ∷ op_words op

abbrev pub end_words : Unit {0} → List (List ℕ)
end_words u = codes "end" ∷ []

-- the lines of a program text
abbrev pub program_block : Block (Option Mode × (ℕ × (ℕ × (List (List Ion) × (List OpKind × Unit {0})))))
program_block =
    head_block
    ▹ λ mode. size (codes "qubits") 256
    ▹ λ qubits. size (codes "bits") 256
    ▹ λ bits. counted (codes "traps") 32 chain_line chain_words
    ▹ λ chains. counted (codes "ops") 4194304 op_line op_line_words
    ▹ λ ops. line_block end_line end_words

-- the numbers, the mode, the chains and the operations of a raw program, as the lines have them
abbrev pub raw_of : Option Mode × (ℕ × (ℕ × (List (List Ion) × (List OpKind × Unit {0})))) → RawData
raw_of v = record { qubits = v.1.0; bits = v.1.1.0; mode = v.0; chains = v.1.1.1.0; ops = v.1.1.1.1.0 }

abbrev pub value_of : RawData → Option Mode × (ℕ × (ℕ × (List (List Ion) × (List OpKind × Unit {0}))))
value_of raw = (raw.mode, (raw.qubits, (raw.bits, (raw.chains, (raw.ops, tt)))))

unfoldable pub read_text : List ℕ → Result RawData Refusal
read_text text = read_all program_block text >>= λ v. Ok (raw_of v)

unfoldable pub raw_text : RawData → List ℕ
raw_text raw = lines_text (program_block.lines (value_of raw))

-- the raw program that a text spells, and the refusal of a text that spells none
abbrev pub Spells : List ℕ → RawData → Type 0
Spells text raw = read_text text ≡ Ok raw

abbrev pub IsRefusedAt : List ℕ → Refusal → Type 0
IsRefusedAt text refusal = read_text text ≡ Err refusal
