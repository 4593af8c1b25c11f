-- The text of a program, and the pieces in which it is sent.
use Rattle.std.specs.Prelude.{ℕ, ◌+◌, Option, Some, None, List, [], ◌∷◌, ◌++◌, codes, decimal, flat_map, length}
use Rattle.qccd_base.specs.declared.names.Ion.{Ion}
use Rattle.qccd_base.specs.declared.names.Mode.{Mode}
use Rattle.qccd_base.specs.declared.names.Mode.TheVariants.{IonSwap, GateSwap}
use Rattle.op_table.specs.declared.kinds.OpKind.{OpKind}
use Rattle.qccd_program.specs.Program.{ProgramData}
use Rattle.op_text.specs.OpText.{op_text, next_word}
use Rattle.transport_asm.specs.Texts.{RawData, raw_text}

-- what a program's text spells: its numbers, its mode, start chains and operations
abbrev pub spelled : ProgramData → RawData
spelled p = record { qubits = p.qubits; bits = p.bits; mode = p.mode; chains = p.start; ops = p.ops }

unfoldable pub program_text : ProgramData → List ℕ
program_text p = raw_text (spelled p)

-- ---- the pieces

-- texts one after another, each with its number, from k on
abbrev pub numbered_texts : {A : Type 0} → (ℕ → A → List ℕ) → ℕ → List A → List ℕ
numbered_texts text k [] = []
numbered_texts text k (value ∷ more) = text k value ++ numbered_texts text (k + 1) more

-- a program that names no mode is written in the first version of the format
abbrev pub head_text : Option Mode → List ℕ
head_text None = codes "QCCD 1\n"
head_text (Some IonSwap) = codes "QCCD 2\nmode ion\n"
head_text (Some GateSwap) = codes "QCCD 2\nmode gate\n"

abbrev pub counts_text : ℕ → ℕ → List ℕ
counts_text qubits bits = (codes "qubits " ++ decimal qubits) ++ (codes "\nbits " ++ decimal bits)

abbrev pub traps_head : ℕ → List ℕ
traps_head n = codes "\ntraps " ++ decimal n ++ codes "\n"

abbrev pub ions_text : List Ion → List ℕ
ions_text ions = flat_map (λ i. next_word (decimal i.0)) ions

abbrev pub chain_text : ℕ → List Ion → List ℕ
chain_text t ions = codes "T" ++ decimal t ++ ions_text ions ++ codes "\n"

abbrev pub ops_head : ℕ → List ℕ
ops_head n = codes "ops " ++ decimal n ++ codes "\n"

abbrev pub op_line_text : ℕ → OpKind → List ℕ
op_line_text k op = decimal k ++ codes " " ++ op_text op ++ codes "\n"

abbrev pub front_text : ProgramData → List ℕ
front_text p = head_text p.mode ++ counts_text p.qubits p.bits ++ traps_head (length p.start) ++ numbered_texts chain_text 0 p.start

abbrev pub back_text : List OpKind → List ℕ
back_text ops = ops_head (length ops) ++ numbered_texts op_line_text 0 ops ++ codes "end\n"
