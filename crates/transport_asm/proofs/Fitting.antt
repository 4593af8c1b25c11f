-- What has a text, word by word as it is read. The definition is `IsWritable`; this form follows the words.
use Rattle.std.specs.Prelude.{◌≡◌, ℕ, ◌<◌, ◌≤◌, true, false, ◌⊎◌, List, [], ◌∷◌, ◌++◌, Option, Some, None, length, map, codes, bytes_eq}
use Rattle.std.specs.List.{list_all, list_any, AllByRecursion}
use Rattle.qccd_base.specs.declared.names.Ion.{Ion}
use Rattle.qccd_base.specs.declared.names.TrapId.{TrapId}
use Rattle.qccd_base.specs.declared.names.SegId.{SegId}
use Rattle.qccd_base.specs.declared.names.JuncId.{JuncId}
use Rattle.qccd_base.specs.declared.names.Qubit.{Qubit}
use Rattle.qccd_base.specs.declared.names.Bit.{Bit}
use Rattle.qccd_base.specs.declared.names.End.{End}
use Rattle.qccd_circuit.specs.declared.kinds.Cond.{Cond}
use Rattle.qccd_circuit.specs.Item.{is_word}
use Rattle.op_table.specs.declared.kinds.OpKind.{OpKind}
use Rattle.op_table.specs.declared.kinds.OpKind.TheVariants.{Split, Move, Enter, Leave, Merge, Rot, GSwap, Item, Fence}
use Rattle.op_text.specs.OpText.{operand_text, bit_text}
use Rattle.op_text.specs.Slots.{Gate, greatest, greatest_value, is_count, has_angle_form, is_long_angle}
use Rattle.op_text.specs.Operations.{Tail, cond_words, item_op, barrier_over, is_right}
use Rattle.transport_asm.specs.Texts.{RawData}

-- what a gate keeps to that has a word
pub record FitsGate (g : Gate) : Type 0 where
  pub is_name : is_word g.name ≡ true
  pub short_name : length g.name ≤ 64
  pub are_angles : list_all has_angle_form g.angles ≡ true
  pub none_long : list_any is_long_angle g.angles ≡ false
  pub few : length g.angles ≤ 16

abbrev pub FitsOperand : Qubit × ℕ → Type 0
FitsOperand q = (q.0.0 ≤ 65535) × (q.1 ≤ 255)

abbrev pub FitsCond : Option Cond → Type 0
FitsCond None = Unit {0}
FitsCond (Some c) = (c.first.0 ≤ 65535) × ((is_count c.first c.count ≡ true) × (c.value ≤ greatest_value))

abbrev pub no_tail : Option Cond → Tail
no_tail c = record { second = []; bits = []; cond = c }

abbrev pub bit_tail : Bit → Option Cond → Tail
bit_tail b c = record { second = []; bits = b ∷ []; cond = c }

abbrev pub second_tail : Qubit × ℕ → Option Cond → Tail
second_tail q c = record { second = q ∷ []; bits = []; cond = c }

abbrev pub tail_words : Tail → List (List ℕ)
tail_words tail = (map operand_text tail.second ++ map bit_text tail.bits) ++ cond_words tail.cond

abbrev pub FitsMore : Option Cond → Tail → Type 0
FitsMore c tail = (tail ≡ no_tail c) ⊎ ((q : Qubit × ℕ) × (FitsOperand q × (tail ≡ second_tail q c)))

-- what the name asks for, and that condition
abbrev pub FitsUnder : List ℕ → Option Cond → Tail → Type 0
FitsUnder name c tail =
    ((bytes_eq name (codes "measure") ≡ true) × ((b : Bit) × ((b.0 ≤ 65535) × (tail ≡ bit_tail b c))))
    ⊎ (((bytes_eq name (codes "measure") ≡ false) × ((bytes_eq name (codes "reset") ≡ true) × (tail ≡ no_tail c)))
    ⊎ ((bytes_eq name (codes "measure") ≡ false) × ((bytes_eq name (codes "reset") ≡ false) × FitsMore c tail)))

pub record FitsTail (name : List ℕ) (tail : Tail) : Type 0 where
  pub cond : Option Cond
  pub fits_cond : FitsCond cond
  pub under : FitsUnder name cond tail

abbrev pub Head : Type 0
Head = ℕ × (Gate × (TrapId × (Qubit × ℕ)))

abbrev pub FitsHead : Head → Type 0
FitsHead head = (head.0 ≤ greatest) × (FitsGate head.1.0 × ((head.1.1.0.0 ≤ 255) × FitsOperand head.1.1.1))

-- an item's operation is made of a head and a tail
pub record FitsItem (op : OpKind) : Type 0 where
  pub head : Head
  pub tail : Tail
  pub is : item_op head tail ≡ op
  pub fits_head : FitsHead head
  pub fits_tail : FitsTail head.1.0.name tail

abbrev pub FitsQubit : Qubit → Type 0
FitsQubit q = q.0 ≤ 65535

abbrev pub FitsTrap : TrapId → Type 0
FitsTrap t = t.0 ≤ 255

pub record FitsFence (op : OpKind) : Type 0 where
  pub number : ℕ
  pub first : TrapId
  pub more : List TrapId
  pub qubits : List Qubit
  pub is : Fence number (barrier_over qubits) (first ∷ more) ≡ op
  pub small : number ≤ greatest
  pub fits_first : FitsTrap first
  pub fits_more : AllByRecursion FitsTrap more
  pub some : 0 < length qubits
  pub fits_qubits : AllByRecursion FitsQubit qubits

abbrev pub FitsSegment : SegId → Type 0
FitsSegment g = g.0 ≤ 255

abbrev pub FitsJunction : JuncId → Type 0
FitsJunction j = j.0 ≤ 255

abbrev pub FitsEnd : End → Type 0
FitsEnd e = Unit {0}

abbrev pub FitsPosition : ℕ → Type 0
FitsPosition p = p ≤ 255

-- what an operation keeps to that has a text
abbrev pub FitsWords : OpKind → Type 0
FitsWords (Split t e g) = FitsTrap t × (FitsEnd e × FitsSegment g)
FitsWords (Move g) = FitsSegment g
FitsWords (Enter g j) = FitsSegment g × FitsJunction j
FitsWords (Leave j g) = FitsJunction j × FitsSegment g
FitsWords (Merge g t e) = FitsSegment g × (FitsTrap t × FitsEnd e)
FitsWords (Rot t p) = FitsTrap t × FitsPosition p
FitsWords (GSwap t low high) = FitsTrap t × (FitsPosition low × FitsPosition high)
FitsWords (Item number t item at) = FitsItem (Item number t item at)
FitsWords (Fence number item traps) = FitsFence (Fence number item traps)

-- what an operation keeps to that has a line
pub record FitsOp (op : OpKind) : Type 0 where
  pub fits : FitsWords op
  pub right : is_right op ≡ true

abbrev pub FitsIon : Ion → Type 0
FitsIon i = i.0 ≤ 65535

pub record FitsChain (chain : List Ion) : Type 0 where
  pub few : length chain ≤ 256
  pub ions : AllByRecursion FitsIon chain

-- what a raw program keeps to that has a text
pub record FitsRaw (raw : RawData) : Type 0 where
  pub qubits : raw.qubits ≤ 256
  pub bits : raw.bits ≤ 256
  pub traps : length raw.chains ≤ 32
  pub chains : AllByRecursion FitsChain raw.chains
  pub few_ops : length raw.ops ≤ 4194304
  pub ops : AllByRecursion FitsOp raw.ops
