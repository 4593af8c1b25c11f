-- The cells before the first operation.
use Rattle.std.specs.Prelude.{◌≡◌, ℕ, ◌<◌, List, length, Some, slice_get}
use Rattle.qccd_base.specs.declared.names.Res.{Res}
use Rattle.op_table.specs.declared.contents.Content.{Content}
use Rattle.op_table.specs.Contents.{content}
use Rattle.op_cells.specs.declared.cells.Cell.{Cell}
use Rattle.op_cells.specs.Numbering.{index_of, IsThere}
use Rattle.qccd_program.specs.Program.{ProgramData, opening_of}
use Rattle.qccd_program.specs.CellOfRun.{IsCell}

-- the content at the opening of the resource with that number
abbrev pub IsContentAt : ProgramData → ℕ → Content → Type 0
IsContentAt p i c = (r : Res) → IsThere p.machine p.bits r → index_of p.machine r ≡ i → c ≡ content (opening_of p) r

-- the first n cells
pub record FirstCells (p : ProgramData) (n : ℕ) (cells : List Cell) : Type 0 where
  pub long : length cells ≡ n
  pub each : (r : Res) → IsThere p.machine p.bits r → index_of p.machine r < n → (c : Cell) × (slice_get cells (index_of p.machine r) ≡ Some c) × IsCell p r 0 c
