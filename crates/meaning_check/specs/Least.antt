-- The least number of an item on each operand.
use Rattle.std.specs.Prelude.{◌≡◌, ℕ, ◌<◌, min, Bool, List, [], ◌∷◌, length, map, filter, get_or, IfSome}
use Rattle.qccd_circuit.specs.Circuit.{IsWithin}
use Rattle.qccd_circuit.specs.Item.{ItemData}
use Rattle.qccd_circuit.specs.Operands.{uses}
use Rattle.op_table.specs.declared.kinds.OpKind.{OpKind}
use Rattle.op_table.specs.Run.{item_in}

-- more than the number of any item
abbrev pub no_number : ℕ
no_number = 4294967295

-- the least of the numbers, and more than any where there is none
abbrev pub least : List ℕ → ℕ
least [] = no_number
least (n ∷ ns) = min n (least ns)

-- the least number of the items that pass
abbrev pub least_of : (ItemData → Bool) → List (ℕ × ItemData) → ℕ
least_of passes list = least (map (λ e. e.0) (filter (λ e. passes e.1) list))

-- the operation does no item, or one whose operands have rows
abbrev pub HasRows : OpKind → Type 0
HasRows op = IfSome (item_in op) (λ e. IsWithin 256 256 e.1)

-- the rows of a table are the least numbers on the operands
pub record AreLeast (list : List (ℕ × ItemData)) (rows : List ℕ) : Type 0 where
  pub all : length rows ≡ 512
  pub row : (o : ℕ) → o < 512 → get_or rows o 0 ≡ least_of (λ d. uses d o) list
