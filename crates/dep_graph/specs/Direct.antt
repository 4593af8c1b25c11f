-- Which items stand directly before an item.
use Rattle.std.specs.Prelude.{ℕ, ◌+◌, ◌-◌, Bool, false, ◌&&◌, not, nat_le, Option, Some, None, List, [], slice_get}
use Rattle.std.specs.List.{list_any, range_with_len}
use Rattle.qccd_circuit.specs.Item.{ItemData}
use Rattle.qccd_circuit.specs.Operands.{operands_of, uses}
use Rattle.qccd_circuit.specs.Sharing.{shares}

abbrev pub used_by : Option ItemData → ℕ → Bool
used_by None o = false
used_by (Some d) o = uses d o

-- whether the operand is one of item i's
abbrev pub uses_at : List ItemData → ℕ → ℕ → Bool
uses_at items i o = used_by (slice_get items i) o

abbrev pub operands_in : Option ItemData → List ℕ
operands_in None = []
operands_in (Some d) = operands_of d

abbrev pub share_both : Option ItemData → Option ItemData → Bool
share_both None b = false
share_both (Some a) None = false
share_both (Some a) (Some b) = shares a b

-- whether items i and j share
abbrev pub shares_at : List ItemData → ℕ → ℕ → Bool
shares_at items i j = share_both (slice_get items i) (slice_get items j)

-- whether j is the first item from a number on that uses the operand
abbrev pub is_first : List ItemData → ℕ → ℕ → ℕ → Bool
is_first items from o j =
    nat_le from j && uses_at items j o && not (list_any (λ k. uses_at items k o) (range_with_len from (j - from)))

-- whether item j is the next one on some operand of item i
abbrev pub directly_before : List ItemData → ℕ → ℕ → Bool
directly_before items i j = list_any (λ o. is_first items (i + 1) o j) (operands_in (slice_get items i))
