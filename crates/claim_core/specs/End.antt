-- What the committed operations leave.
use Rattle.std.specs.Prelude.{◌≡◌, ℕ, if◌then◌else◌, List, [], ◌∷◌, map, Some, slice_get}
use Rattle.qccd_base.specs.declared.names.Res.{Res}
use Rattle.qccd_base.specs.Resource.{same_res}
use Rattle.op_table.specs.declared.kinds.OpKind.{OpKind}
use Rattle.op_table.specs.Clock.{timed}
use Rattle.op_table.specs.Touch.{touches}
use Rattle.op_cells.specs.Acted.{CellData, acted_on}
use Rattle.qccd_program.specs.CellOfRun.{cell_at}
use Rattle.qccd_program.specs.Program.{ProgramData}
use Rattle.claim_core.specs.History.{ops_of}

-- operation k stands in the list, where it has the start and the finish that it has in the program
pub record HasItsTimes (p : ProgramData) (v : List (ℕ × OpKind)) (k : ℕ) : Type 0 where
  pub at : ℕ
  pub op : OpKind
  pub stands : slice_get v at ≡ Some (k, op)
  pub same : slice_get (timed p.machine (ops_of v)) at ≡ slice_get (timed p.machine p.ops) k

-- the cells of all resources, these resources' cells replaced
abbrev pub with_cells : List Res → List CellData → (Res → CellData) → Res → CellData
with_cells [] ds cells r = cells r
with_cells (q ∷ qs) [] cells r = cells r
with_cells (q ∷ qs) (d ∷ ds) cells r = if same_res q r then d else with_cells qs ds cells r

-- the cells of all resources after these operations, each with its number, were done one after another on
-- the cells that they touch
abbrev pub cells_from : ProgramData → (Res → CellData) → List (ℕ × OpKind) → Res → CellData
cells_from p cells [] = cells
cells_from p cells (e ∷ v) = cells_from p (with_cells (touches e.1) (acted_on p.machine e.0 e.1 (map cells (touches e.1))) cells) v

-- the same from the cells before the first operation
abbrev pub cells_after : ProgramData → List (ℕ × OpKind) → Res → CellData
cells_after p v = cells_from p (λ r. cell_at p r 0) v
