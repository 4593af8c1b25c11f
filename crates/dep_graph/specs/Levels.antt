-- The levels of a circuit's items.
use Rattle.std.specs.Prelude.{ℕ, ◌+◌, List, [], ◌∷◌, map, filter}
use Rattle.qccd_base.specs.Greatest.{greatest}
use Rattle.qccd_circuit.specs.Item.{ItemData}
use Rattle.qccd_circuit.specs.Sharing.{shares}

-- an item and its level
pub record Levelled : Type 0 where
  pub item : ItemData
  pub level : ℕ

-- 0 where no earlier item shares, else 1 plus the greatest level of those that do
abbrev pub level_after : List Levelled → ItemData → ℕ
level_after earlier item = greatest (map (λ e. e.level + 1) (filter (λ e. shares e.item item) earlier))

abbrev pub levels_from : List Levelled → List ItemData → List ℕ
levels_from earlier [] = []
levels_from earlier (item ∷ items) =
    let level = level_after earlier item in
    level ∷ levels_from (record { item = item; level = level } ∷ earlier) items

-- the level of each item, in the order of the items
abbrev pub levels : List ItemData → List ℕ
levels items = levels_from [] items
