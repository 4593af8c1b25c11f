-- Items that share, and the order in which their operations stand.
use Rattle.std.specs.Prelude.{◌≡◌, ℕ, ◌<◌, true, List, [], ◌∷◌, Some, slice_get}
use Rattle.qccd_base.specs.declared.names.Res.{Res}
use Rattle.qccd_base.specs.Resource.{among}
use Rattle.qccd_circuit.specs.Item.{ItemData}
use Rattle.qccd_circuit.specs.Sharing.{shares}
use Rattle.op_table.specs.declared.kinds.OpKind.{OpKind}
use Rattle.op_table.specs.Run.{item_in}
use Rattle.claim_core.specs.Event.{touched}

-- operation k does this item
pub record DoesItem (ops : List OpKind) (k : ℕ) (item : ItemData) : Type 0 where
  pub op : OpKind
  pub number : ℕ
  pub is : slice_get ops k ≡ Some op
  pub does : item_in op ≡ Some (number, item)

-- operation a stands before operation b, and they do items that share
pub record ShareInOrder (ops : List OpKind) (a b : ℕ) : Type 0 where
  pub earlier : a < b
  pub first : ItemData
  pub second : ItemData
  pub does_first : DoesItem ops a first
  pub does_second : DoesItem ops b second
  pub share : shares first second ≡ true

-- wherever operation b stands in the list, operation a stands before it
abbrev pub StandsBefore : List (ℕ × OpKind) → ℕ → ℕ → Type 0
StandsBefore v a b = (y : ℕ) (later : OpKind) → slice_get v y ≡ Some (b, later) → (x : ℕ) × (earlier : OpKind) × (x < y) × (slice_get v x ≡ Some (a, earlier))

-- operation a stands before operation b, and they touch a common resource
pub record Meet (ops : List OpKind) (a b : ℕ) : Type 0 where
  pub earlier : a < b
  pub res : Res
  pub first : among (touched ops a) res ≡ true
  pub second : among (touched ops b) res ≡ true

-- from operation a over these to operation b each meets the next
abbrev pub IsChain : List OpKind → ℕ → List ℕ → ℕ → Type 0
IsChain ops a [] b = Meet ops a b
IsChain ops a (j ∷ js) b = Meet ops a j × IsChain ops j js b
