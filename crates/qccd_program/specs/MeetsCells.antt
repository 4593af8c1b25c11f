-- What an operation of a program meets in its cells at their turns.
use Rattle.std.specs.Prelude.{◌≡◌, ℕ, ◌+◌, ◌<◌, ◌^◌, true, List, map, length, None, Some, slice_get}
use Rattle.qccd_base.specs.declared.names.Res.{Res}
use Rattle.op_table.specs.declared.kinds.OpKind.{OpKind}
use Rattle.op_table.specs.Act.{why_on}
use Rattle.op_table.specs.Clock.{timed, duration}
use Rattle.op_table.specs.Contents.{heat_held}
use Rattle.op_table.specs.Touch.{touches, nth, is_first}
use Rattle.op_cells.specs.Acted.{CellData, acted_on, start_on}
use Rattle.qccd_program.specs.Program.{ProgramData}
use Rattle.qccd_program.specs.CellOfRun.{cell_at, firsts}

-- the cells that operation k touches, at their turns and at the next
abbrev pub own_cells : ProgramData → ℕ → OpKind → List CellData
own_cells p k op = map (λ r. cell_at p r (nth p.ops k r)) (touches op)

abbrev pub next_cells : ProgramData → ℕ → OpKind → List CellData
next_cells p k op = map (λ r. cell_at p r (nth p.ops k r + 1)) (touches op)

-- operation k is legal on its cells and starts at their greatest clock; done on these cells alone, it
-- leaves the cells at the next turns; its first resource's log lacks an entry; clocks and heats are small
pub record MeetsCells (p : ProgramData) (k : ℕ) (op : OpKind) : Type 0 where
  pub legal : why_on p.machine p.bits op (map (λ d. d.content) (own_cells p k op)) ≡ None
  pub times : slice_get (timed p.machine p.ops) k ≡ Some (record { op = op; start = start_on (own_cells p k op); finish = start_on (own_cells p k op) + duration p.machine op })
  pub leaves : next_cells p k op ≡ acted_on p.machine k op (own_cells p k op)
  pub room : (r : Res) → is_first op r ≡ true → length (cell_at p r (nth p.ops k r)).log < firsts p.ops r
  pub clocks : (r : Res) → (cell_at p r (nth p.ops k r)).clock < 2 ^ 62
  pub heats : (r : Res) → heat_held (cell_at p r (nth p.ops k r)).content < 2 ^ 62
