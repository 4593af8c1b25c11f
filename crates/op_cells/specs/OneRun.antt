-- One operation done on all cells.
use Rattle.std.specs.Prelude.{set, ◌≡◌, ℕ, ◌<◌, ◌^◌, true, false, List, [], ◌∷◌, map, length, Option, Some, None, option_map, slice_get, All}
use Rattle.std.specs.List.{AllByRecursion}
use Rattle.qccd_base.specs.declared.names.Res.{Res}
use Rattle.qccd_base.specs.Resource.{among}
use Rattle.qccd_machine.specs.Machine.{MachineData}
use Rattle.op_table.specs.declared.kinds.OpKind.{OpKind}
use Rattle.op_table.specs.Act.{why_on}
use Rattle.op_table.specs.Contents.{heat_held}
use Rattle.op_table.specs.Touch.{touches, is_first}
use Rattle.op_cells.specs.declared.cells.Cell.{Cell}
use Rattle.op_cells.specs.declared.cells.Held.{Held}
use Rattle.op_cells.specs.Acted.{CellData, acted_on, data_of, room_of}
use Rattle.op_cells.specs.Numbering.{index_of, IsThere}

-- what is read of the cell of a resource
abbrev pub read_at : MachineData → List Cell → Res → Option CellData
read_at m cells r = option_map data_of (slice_get cells (index_of m r))

-- the operation may be done on these cells
pub record MayRun (m : MachineData) (op : OpKind) (cells : List Cell) : Type 0 where
  pub found : List CellData
  pub reads : map (read_at m cells) (touches op) ≡ map Some found
  pub legal : (bits : ℕ) × (why_on m bits op (map (λ d. d.content) found) ≡ None)
  pub clocks : All (λ d. d.clock < 2 ^ 62) found
  pub heats : All (λ d. heat_held d.content < 2 ^ 62) found
  pub room : (r : Res) (c : Cell) → is_first op r ≡ true → slice_get cells (index_of m r) ≡ Some c → 0 < c.log.spare

-- it was done on them, as number k
pub record Ran (m : MachineData) (bits k : ℕ) (op : OpKind) (old new : List Cell) : Type 0 where
  pub long : length new ≡ length old
  pub touched : (ds : List CellData) → map (read_at m old) (touches op) ≡ map Some ds → map (read_at m new) (touches op) ≡ map Some (acted_on m k op ds)
  pub others : (r : Res) → IsThere m bits r → among (touches op) r ≡ false → slice_get new (index_of m r) ≡ slice_get old (index_of m r)
  pub room : (i : ℕ) → option_map room_of (slice_get new i) ≡ option_map room_of (slice_get old i)

-- cells put back to their places
abbrev pub put_all : MachineData → List Cell → List Held → List Cell
put_all m cells [] = cells
put_all m cells (h ∷ hs) = put_all m (set cells (index_of m h.res) h.cell) hs

-- cells that were taken out of their places
abbrev pub Taken : MachineData → ℕ → List Cell → List Held → Type 0
Taken m bits cells hs = AllByRecursion (λ h. (slice_get cells (index_of m h.res) ≡ Some h.cell) × IsThere m bits h.res) hs
