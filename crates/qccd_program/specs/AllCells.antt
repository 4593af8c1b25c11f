-- All cells of a machine at their turns of a program's run.
use Rattle.std.specs.Prelude.{◌≡◌, ℕ, List, length, Some, slice_get}
use Rattle.qccd_base.specs.declared.names.Res.{Res}
use Rattle.op_table.specs.Touch.{nth, total}
use Rattle.op_cells.specs.declared.cells.Cell.{Cell}
use Rattle.op_cells.specs.Numbering.{count_of, index_of, IsThere}
use Rattle.qccd_program.specs.Program.{ProgramData}
use Rattle.qccd_program.specs.CellOfRun.{IsCell}

-- there is a cell for each resource, and it is that of the run at this turn
pub record AtTurns (p : ProgramData) (turn : Res → ℕ) (cells : List Cell) : Type 0 where
  pub long : length cells ≡ count_of p.machine p.bits
  pub each : (r : Res) → IsThere p.machine p.bits r → (c : Cell) × (slice_get cells (index_of p.machine r) ≡ Some c) × IsCell p r (turn r) c

-- just before operation k, and at the end
abbrev pub AtStep : ProgramData → ℕ → List Cell → Type 0
AtStep p k cells = AtTurns p (nth p.ops k) cells

abbrev pub AtEnd : ProgramData → List Cell → Type 0
AtEnd p cells = AtTurns p (total p.ops) cells
