-- When a list of item numbers keeps the order of items that share.
use Rattle.std.specs.Prelude.{◌≡◌, ℕ, ◌<◌, Bool, false, ◌==◌, nat_lt, if◌then◌else◌, IsTrue, List, [], ◌∷◌, length, slice_get, Some, count_by}
use Rattle.std.specs.List.{list_any}
use Rattle.qccd_circuit.specs.Item.{ItemData}
use Rattle.qccd_circuit.specs.Sharing.{shares}

-- whether i stands in the list, and j somewhere after it
abbrev pub stands_before : ℕ → ℕ → List ℕ → Bool
stands_before i j [] = false
stands_before i j (k ∷ v) = if k == i then list_any (λ n. n == j) v else stands_before i j v

-- the list holds the number of each item once and no other number, and of each two items that share, the
-- earlier one's number first
pub record SameOrder (items : List ItemData) (v : List ℕ) : Type 0 where
  pub once : (k : ℕ) → count_by (λ n. n == k) v ≡ (if nat_lt k (length items) then 1 else 0)
  pub kept :
      (i j : ℕ) (a b : ItemData) → i < j → slice_get items i ≡ Some a → slice_get items j ≡ Some b
      → IsTrue (shares a b) → IsTrue (stands_before i j v)
