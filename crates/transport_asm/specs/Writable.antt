-- What has a text: an operation each of whose numbers is within the limit of its word, and a program of such operations.
use Rattle.std.specs.Prelude.{◌≤◌, List, length, Option, Some, None}
use Rattle.std.specs.List.{AllByRecursion}
use Rattle.qccd_base.specs.declared.names.Ion.{Ion}
use Rattle.op_table.specs.Op.{IsOp, KeepsItemRule}
use Rattle.qccd_circuit.specs.declared.kinds.Cond.{Cond}
use Rattle.op_table.specs.declared.kinds.OpKind.{OpKind}
use Rattle.op_table.specs.declared.kinds.OpKind.TheVariants.{Split, Move, Enter, Leave, Merge, Rot, GSwap, Item, Fence}
use Rattle.op_text.specs.Slots.{greatest, greatest_value}
use Rattle.transport_asm.specs.Texts.{RawData}

-- the number of a condition's bits, and its value, are within the limits of their words
abbrev pub KeepsCondLimits : Option Cond → Type 0
KeepsCondLimits None = Unit {0}
KeepsCondLimits (Some c) = (c.count ≤ 65535) × (c.value ≤ greatest_value)

-- each number is within the limit of its word
abbrev pub KeepsLimits : OpKind → Type 0
KeepsLimits (Split t e g) = (t.0 ≤ 255) × (g.0 ≤ 255)
KeepsLimits (Move g) = g.0 ≤ 255
KeepsLimits (Enter g j) = (g.0 ≤ 255) × (j.0 ≤ 255)
KeepsLimits (Leave j g) = (j.0 ≤ 255) × (g.0 ≤ 255)
KeepsLimits (Merge g t e) = (g.0 ≤ 255) × (t.0 ≤ 255)
KeepsLimits (Rot t p) = (t.0 ≤ 255) × (p ≤ 255)
KeepsLimits (GSwap t low high) = (t.0 ≤ 255) × (low ≤ 255) × (high ≤ 255)
KeepsLimits (Item number t item at) =
    (number ≤ greatest) × (t.0 ≤ 255) × AllByRecursion (λ q. q.0 ≤ 65535) item.qubits
    × AllByRecursion (λ b. b.0 ≤ 65535) item.bits
    × AllByRecursion (λ p. p ≤ 255) at
    × KeepsCondLimits item.cond
KeepsLimits (Fence number item traps) =
    (number ≤ greatest) × AllByRecursion (λ t. t.0 ≤ 255) traps × AllByRecursion (λ q. q.0 ≤ 65535) item.qubits

-- an operation that has a text: it keeps to what each operation does, and its item fits
pub record IsWritable (op : OpKind) : Type 0 where
  pub is_op : IsOp op
  pub fits : KeepsItemRule op
  pub limits : KeepsLimits op

-- a chain that has a line
abbrev pub IsWritableChain : List Ion → Type 0
IsWritableChain chain = (length chain ≤ 256) × AllByRecursion (λ i. i.0 ≤ 65535) chain

-- a raw program that has a text
pub record IsWritableRaw (raw : RawData) : Type 0 where
  pub qubits : raw.qubits ≤ 256
  pub bits : raw.bits ≤ 256
  pub traps : length raw.chains ≤ 32
  pub chains : AllByRecursion IsWritableChain raw.chains
  pub few_ops : length raw.ops ≤ 4194304
  pub ops : AllByRecursion IsWritable raw.ops
