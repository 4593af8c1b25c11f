-- Cells read and changed at their places in a list of all.
use Rattle.std.specs.Prelude.{ℕ, zero, suc, ◌<◌, List, [], ◌∷◌, Option, Some, None, slice_get}
use Rattle.std.specs.List.{AllByRecursion}
use Rattle.qccd_base.specs.declared.names.Res.{Res}
use Rattle.qccd_machine.specs.Machine.{MachineData}
use Rattle.op_table.specs.declared.contents.Content.{Content}
use Rattle.op_table.specs.declared.contents.Content.TheVariants as holds
use Rattle.op_cells.specs.declared.cells.Cell.{Cell}
use Rattle.op_cells.specs.Numbering.{index_of}

-- what is read of a place; where no cell is, nothing is held, at time 0
abbrev pub content_or : Option Cell → Content
content_or None = holds.Bit
content_or (Some c) = c.content

abbrev pub clock_or : Option Cell → ℕ
clock_or None = 0
clock_or (Some c) = c.free_at

abbrev pub content_at : MachineData → List Cell → Res → Content
content_at m cells r = content_or (slice_get cells (index_of m r))

abbrev pub clock_at : MachineData → List Cell → Res → ℕ
clock_at m cells r = clock_or (slice_get cells (index_of m r))

-- each stands in the list
abbrev pub AreWithin : MachineData → ℕ → List Res → Type 0
AreWithin m n rs = AllByRecursion (λ r. index_of m r < n) rs

-- each stands before those after it
abbrev pub AreInTurn : MachineData → List Res → Type 0
AreInTurn m [] = Unit {0}
AreInTurn m (r ∷ rs) = AllByRecursion (λ q. index_of m r < index_of m q) rs × AreInTurn m rs

-- one cell changed
abbrev pub adjust : (Cell → Cell) → List Cell → ℕ → List Cell
adjust f [] i = []
adjust f (c ∷ cs) zero = f c ∷ cs
adjust f (c ∷ cs) (suc i) = c ∷ adjust f cs i

-- the cells of these resources changed, each by its own change; where there are fewer changes, the others stay
abbrev pub adjust_all : MachineData → List Res → List (Cell → Cell) → List Cell → List Cell
adjust_all m [] fs cells = cells
adjust_all m (r ∷ rs) [] cells = cells
adjust_all m (r ∷ rs) (f ∷ fs) cells = adjust_all m rs fs (adjust f cells (index_of m r))

abbrev pub holding : Content → Cell → Cell
holding content c = record c { content = content }

abbrev pub free_from : ℕ → Cell → Cell
free_from finish c = record c { free_at = finish }

-- the log of the first has room
abbrev pub HasRoom : Option Cell → Type 0
HasRoom None = Unit {0}
HasRoom (Some c) = 0 < c.log.spare

abbrev pub HasFirstRoom : MachineData → List Res → List Cell → Type 0
HasFirstRoom m [] cells = Unit {0}
HasFirstRoom m (r ∷ rs) cells = HasRoom (slice_get cells (index_of m r))
