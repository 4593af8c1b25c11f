-- How a program stands to a circuit.
use Rattle.std.specs.Prelude.{◌≡◌, ◌≢◌, ℕ, ◌<◌, ◌≤◌, Bool, ◌==◌, false, IsTrue, List, length, take, Some, slice_get, IfSome}
use Rattle.std.specs.List.{list_any, AllByRecursion}
use Rattle.qccd_circuit.specs.Circuit.{CircuitData}
use Rattle.qccd_circuit.specs.Item.{ItemData}
use Rattle.qccd_circuit.specs.Sharing.{shares}
use Rattle.op_table.specs.declared.kinds.OpKind.{OpKind}
use Rattle.op_table.specs.Run.{item_in, items_in}
use Rattle.qccd_program.specs.Program.{ProgramData}
use Rattle.meaning_check.specs.declared.verdict.Verdict.{Verdict}
use Rattle.meaning_check.specs.declared.verdict.Verdict.TheVariants.{Sizes, Differs, Missing, Order, Same}

-- the numbers of qubits and of bits are the circuit's
abbrev pub SameSizes : CircuitData → ProgramData → Type 0
SameSizes c p = (p.qubits ≡ c.qubits) × (p.bits ≡ c.bits)

-- ---- the items one by one

-- the operation does no item, or the circuit's of its number
abbrev pub IsOfCircuit : List ItemData → OpKind → Type 0
IsOfCircuit items op = IfSome (item_in op) (λ e. slice_get items e.0 ≡ Some e.1)

-- the operation does an item of this number, which is not the circuit's
pub record IsOther (items : List ItemData) (op : OpKind) (number : ℕ) : Type 0 where
  pub item : ItemData
  pub does : item_in op ≡ Some (number, item)
  pub differs : slice_get items number ≢ Some item

-- the first operation that does such an item, and the item's number
pub record IsFirstToDiffer (items : List ItemData) (ops : List OpKind) (op number : ℕ) : Type 0 where
  pub kind : OpKind
  pub there : slice_get ops op ≡ Some kind
  pub other : IsOther items kind number
  pub before : AllByRecursion (IsOfCircuit items) (take op ops)

-- ---- the items together, in program order

-- whether the list has an item of this number
abbrev pub has_number : List (ℕ × ItemData) → ℕ → Bool
has_number list number = list_any (λ e. e.0 == number) list

-- it has each number below the count
abbrev pub HasEach : ℕ → List (ℕ × ItemData) → Type 0
HasEach count list = (number : ℕ) → number < count → IsTrue (has_number list number)

-- the least number below the count that it does not have
pub record IsLeastMissing (count : ℕ) (list : List (ℕ × ItemData)) (number : ℕ) : Type 0 where
  pub below : number < count
  pub missing : has_number list number ≡ false
  pub lesser : HasEach number list

-- at this place of the list stands the second, and behind it the first, which is smaller and shares with it
pub record Overtakes (list : List (ℕ × ItemData)) (place first second : ℕ) : Type 0 where
  pub behind : ℕ
  pub a : ItemData
  pub b : ItemData
  pub second_at : slice_get list place ≡ Some (second, b)
  pub first_at : slice_get list behind ≡ Some (first, a)
  pub after : place < behind
  pub smaller : first < second
  pub share : IsTrue (shares a b)

-- the second is the first in the list that stands before a smaller one that shares with it, and the first is
-- the least such smaller one
pub record IsFirstToOvertake (list : List (ℕ × ItemData)) (first second : ℕ) : Type 0 where
  pub place : ℕ
  pub overtakes : Overtakes list place first second
  pub least : (i : ℕ) → Overtakes list place i second → first ≤ i
  pub before : (k i j : ℕ) → k < place → Overtakes list k i j → ⊥

-- none in the list stands before a smaller one that shares with it
abbrev pub NoneOvertakes : List (ℕ × ItemData) → Type 0
NoneOvertakes list = (k i j : ℕ) → Overtakes list k i j → ⊥

-- ---- the verdict

-- the sizes are the circuit's, and so are the items, of which none is missing
pub record HasItems (c : CircuitData) (p : ProgramData) : Type 0 where
  pub sizes : SameSizes c p
  pub items : AllByRecursion (IsOfCircuit c.items) p.ops
  pub each : HasEach (length c.items) (items_in p.ops)

-- the first that holds
abbrev pub IsVerdict : CircuitData → ProgramData → Verdict → Type 0
IsVerdict c p Sizes = SameSizes c p → ⊥
IsVerdict c p (Differs op item) = SameSizes c p × IsFirstToDiffer c.items p.ops op item
IsVerdict c p (Missing item) =
    SameSizes c p × AllByRecursion (IsOfCircuit c.items) p.ops × IsLeastMissing (length c.items) (items_in p.ops) item
IsVerdict c p (Order first second) = HasItems c p × IsFirstToOvertake (items_in p.ops) first second
IsVerdict c p Same = HasItems c p × NoneOvertakes (items_in p.ops)
