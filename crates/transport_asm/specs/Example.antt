-- Texts that the worked examples speak of.
use Rattle.std.specs.Prelude.{ℕ, List, [], ◌∷◌, ◌++◌, Option, None, codes, flat_map}
use Rattle.qccd_base.specs.Line.{line}
use Rattle.qccd_base.specs.Names.{ion, trap, segment}
use Rattle.qccd_base.specs.declared.names.End.TheVariants.{Left, Right}
use Rattle.qccd_base.specs.declared.names.Mode.{Mode}
use Rattle.qccd_circuit.specs.Example.{cx_on, h_on}
use Rattle.qccd_circuit.specs.Item.{ItemData}
use Rattle.op_table.specs.declared.kinds.OpKind.{OpKind}
use Rattle.op_table.specs.declared.kinds.OpKind.TheVariants.{Split, Move, Merge, Rot, Item}
use Rattle.transport_asm.specs.Texts.{RawData}

-- lines, each ended by a line feed
abbrev pub text_of : List (List ℕ) → List ℕ
text_of lines = flat_map line lines

-- the lines of four ions in six traps, up to that of the number of operations
abbrev pub head : List ℕ → List (List ℕ)
head ops = codes "QCCD 1" ∷ codes "qubits 4" ∷ codes "bits 0" ∷ codes "traps 6" ∷ codes "T0 0 1 2" ∷ codes "T1 3" ∷ codes "T2" ∷ codes "T3" ∷ codes "T4" ∷ codes "T5" ∷ ops ∷ []

-- eight operations
abbrev pub eight : List (List ℕ)
eight = codes "0 item 0 cx T0 q0@0 q1@1" ∷ codes "1 item 1 x T0 q2@2" ∷ codes "2 rot T0 0" ∷ codes "3 rot T0 1" ∷ codes "4 split T0 right S0" ∷ codes "5 move S0" ∷ codes "6 merge S0 T1 left" ∷ codes "7 item 2 cx T1 q0@0 q3@1" ∷ []

-- their whole text, and what it spells
unfoldable pub compiled : List ℕ
compiled = text_of (head (codes "ops 8") ++ eight ++ codes "end" ∷ [])

abbrev pub x_on : ℕ → ItemData
x_on q = record (h_on q) { name = codes "x" }

abbrev pub eight_ops : List OpKind
eight_ops =
    Item 0 (trap 0) (cx_on 0 1) (0 ∷ 1 ∷ []) ∷ Item 1 (trap 0) (x_on 2) (2 ∷ []) ∷ Rot (trap 0) 0 ∷ Rot (trap 0) 1 ∷ Split (trap 0) Right (segment 0)
    ∷ Move (segment 0) ∷ Merge (segment 0) (trap 1) Left ∷ Item 2 (trap 1) (cx_on 0 3) (0 ∷ 1 ∷ []) ∷ []

abbrev pub compiled_raw : RawData
compiled_raw = record { qubits = 4; bits = 0; mode = None; chains = (ion 0 ∷ ion 1 ∷ ion 2 ∷ []) ∷ (ion 3 ∷ []) ∷ [] ∷ [] ∷ [] ∷ [] ∷ []; ops = eight_ops }

-- the text up to within its fifteenth line
unfoldable pub cut : List ℕ
cut = text_of (head (codes "ops 8") ++ codes "0 item 0 cx T0 q0@0 q1@1" ∷ codes "1 item 1 x T0 q2@2" ∷ codes "2 rot T0 0" ∷ []) ++ codes "3 rot"

-- another number of operations
unfoldable pub counted : List ℕ → List ℕ
counted ops = text_of (head ops ++ eight ++ codes "end" ∷ [])

unfoldable pub of_version : List ℕ → List ℕ
of_version first = text_of (first ∷ codes "qubits 4" ∷ [])

-- without the last line, and with a further one
unfoldable pub without_end : List ℕ
without_end = text_of (head (codes "ops 8") ++ eight)

unfoldable pub following : List ℕ
following = text_of (head (codes "ops 8") ++ eight ++ codes "end" ∷ codes "end" ∷ [])

-- a text of these first lines for one ion in one trap and no operation, and what it spells
unfoldable pub with_head : List (List ℕ) → List ℕ
with_head first = text_of (first ++ codes "qubits 1" ∷ codes "bits 0" ∷ codes "traps 1" ∷ codes "T0 0" ∷ codes "ops 0" ∷ codes "end" ∷ [])

abbrev pub one_ion : Option Mode → RawData
one_ion mode = record { qubits = 1; bits = 0; mode = mode; chains = (ion 0 ∷ []) ∷ []; ops = [] }
