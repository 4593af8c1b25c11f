-- Which items a list of operations does, and in what order.
use Rattle.std.specs.Prelude.{◌≡◌, ℕ, ◌⊎◌, IsTrue, List, [], ◌∷◌, Some}
use Rattle.qccd_circuit.specs.Item.{ItemData}
use Rattle.qccd_circuit.specs.Sharing.{shares}
use Rattle.op_table.specs.declared.kinds.OpKind.{OpKind}
use Rattle.op_table.specs.Run.{item_in}

-- some operation of the list does the item, here with its number
abbrev pub Does : ℕ × ItemData → List OpKind → Type 0
Does a [] = ⊥
Does a (op ∷ ops) = (item_in op ≡ Some a) ⊎ Does a ops

-- some operation does the one item, and a later one the other
abbrev pub DoesBefore : ℕ × ItemData → ℕ × ItemData → List OpKind → Type 0
DoesBefore a b [] = ⊥
DoesBefore a b (op ∷ ops) = ((item_in op ≡ Some a) × Does b ops) ⊎ DoesBefore a b ops

-- of each two items that share, the one that is done first in the one list is done first in the other
abbrev pub KeepsItemOrder : List OpKind → List OpKind → Type 0
KeepsItemOrder ops others = (a b : ℕ × ItemData) → IsTrue (shares a.1 b.1) → DoesBefore a b ops → DoesBefore a b others
