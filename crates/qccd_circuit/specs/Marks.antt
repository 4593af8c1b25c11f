-- Marks that items are given, and the greatest of them on each operand.
use Rattle.std.specs.Prelude.{◌≡◌, ℕ, ◌<◌, List, length, map, filter, get_or}
use Rattle.qccd_base.specs.Greatest.{greatest}
use Rattle.qccd_circuit.specs.Item.{ItemData}
use Rattle.qccd_circuit.specs.Sharing.{shares}
use Rattle.qccd_circuit.specs.Operands.{uses}

-- an item and the mark that it was given
pub record Marked : Type 0 where
  pub item : ItemData
  pub mark : ℕ

-- the greatest mark of the items that use an operand, and 0 where none does
abbrev pub mark_on : List Marked → ℕ → ℕ
mark_on marked o = greatest (map (λ e. e.mark) (filter (λ e. uses e.item o) marked))

-- the greatest mark of the items that share with an item, and 0 where none does
abbrev pub mark_before : List Marked → ItemData → ℕ
mark_before marked d = greatest (map (λ e. e.mark) (filter (λ e. shares e.item d) marked))

-- the rows of a table are the marks on the operands
pub record AreMarks (marked : List Marked) (rows : List ℕ) : Type 0 where
  pub all : length rows ≡ 512
  pub row : (o : ℕ) → o < 512 → get_or rows o 0 ≡ mark_on marked o
