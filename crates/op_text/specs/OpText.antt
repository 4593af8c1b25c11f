-- The text of an operation.
use Rattle.std.specs.Prelude.{ℕ, Bool, true, false, ◌&&◌, ◌==◌, Option, Some, None, is_none, List, [], ◌∷◌, ◌++◌, length, flat_map, zip, codes, decimal}
use Rattle.std.specs.List.{join_with_byte}
use Rattle.qccd_base.specs.declared.names.Qubit.{Qubit}
use Rattle.qccd_base.specs.declared.names.Bit.{Bit}
use Rattle.qccd_base.specs.declared.names.TrapId.{TrapId}
use Rattle.qccd_base.specs.declared.names.SegId.{SegId}
use Rattle.qccd_base.specs.declared.names.JuncId.{JuncId}
use Rattle.qccd_base.specs.declared.names.End.{End}
use Rattle.qccd_base.specs.declared.names.End.TheVariants.{Left, Right}
use Rattle.qccd_circuit.specs.Item.{ItemData}
use Rattle.qccd_circuit.specs.declared.kinds.Cond.{Cond}
use Rattle.op_table.specs.declared.kinds.OpKind.{OpKind}
use Rattle.op_table.specs.declared.kinds.OpKind.TheVariants.{Split, Move, Enter, Leave, Merge, Rot, GSwap, Item, Fence}

-- a further word of a line
abbrev pub next_word : List ℕ → List ℕ
next_word text = codes " " ++ text

abbrev pub trap_text : TrapId → List ℕ
trap_text t = codes "T" ++ decimal t.0

abbrev pub segment_text : SegId → List ℕ
segment_text g = codes "S" ++ decimal g.0

abbrev pub junction_text : JuncId → List ℕ
junction_text j = codes "J" ++ decimal j.0

abbrev pub qubit_text : Qubit → List ℕ
qubit_text q = codes "q" ++ decimal q.0

abbrev pub bit_text : Bit → List ℕ
bit_text b = codes "b" ++ decimal b.0

abbrev pub end_text : End → List ℕ
end_text Left = codes "left"
end_text Right = codes "right"

-- the angles of a gate, where it has any
abbrev pub angles_text : List (List ℕ) → List ℕ
angles_text [] = []
angles_text (angle ∷ angles) = codes "(" ++ join_with_byte 44 (angle ∷ angles) ++ codes ")"

-- a qubit at a position of the chain
abbrev pub operand_text : Qubit × ℕ → List ℕ
operand_text operand = qubit_text operand.0 ++ codes "@" ++ decimal operand.1

-- a condition: the first of its bits, how many there are, and their value
abbrev pub cond_text : Option Cond → List ℕ
cond_text None = []
cond_text (Some c) = codes " if" ++ next_word (bit_text c.first) ++ next_word (decimal c.count) ++ next_word (decimal c.value)

abbrev pub item_text : ℕ → TrapId → ItemData → List ℕ → List ℕ
item_text number t item at =
    codes "item " ++ decimal number ++ next_word (item.name ++ angles_text item.angles) ++ next_word (trap_text t)
    ++ flat_map (λ operand. next_word (operand_text operand)) (zip item.qubits at)
    ++ flat_map (λ b. next_word (bit_text b)) item.bits
    ++ cond_text item.cond

abbrev pub op_text : OpKind → List ℕ
op_text (Split t e g) = codes "split " ++ trap_text t ++ next_word (end_text e) ++ next_word (segment_text g)
op_text (Move g) = codes "move " ++ segment_text g
op_text (Enter g j) = codes "enter " ++ segment_text g ++ next_word (junction_text j)
op_text (Leave j g) = codes "leave " ++ junction_text j ++ next_word (segment_text g)
op_text (Merge g t e) = codes "merge " ++ segment_text g ++ next_word (trap_text t) ++ next_word (end_text e)
op_text (Rot t p) = codes "rot " ++ trap_text t ++ next_word (decimal p)
op_text (GSwap t low high) = codes "gswap " ++ trap_text t ++ next_word (decimal low) ++ next_word (decimal high)
op_text (Item number t item at) = item_text number t item at
op_text (Fence number item traps) =
    codes "fence " ++ decimal number ++ flat_map (λ t. next_word (trap_text t)) traps
    ++ flat_map (λ q. next_word (qubit_text q)) item.qubits

-- whether the text of an operation is short enough to go in one piece: that of an item with no angles and no condition,
-- and that of an operation that moves ions or qubits
abbrev pub is_short : OpKind → Bool
is_short (Split t e g) = true
is_short (Move g) = true
is_short (Enter g j) = true
is_short (Leave j g) = true
is_short (Merge g t e) = true
is_short (Rot t p) = true
is_short (GSwap t low high) = true
is_short (Item number t item at) = length item.angles == 0 && is_none item.cond
is_short (Fence number item traps) = false
