-- The cell of a resource at one of its turns in a program's run.
use Rattle.std.specs.Prelude.{◌≡◌, ℕ, ◌≤◌, List, count_by}
use Rattle.qccd_base.specs.declared.names.Res.{Res}
use Rattle.op_table.specs.declared.kinds.OpKind.{OpKind}
use Rattle.op_table.specs.Contents.{content}
use Rattle.op_table.specs.Touch.{is_first}
use Rattle.op_cells.specs.declared.cells.Cell.{Cell}
use Rattle.op_cells.specs.Acted.{CellData, room_of}
use Rattle.qccd_program.specs.Program.{ProgramData}
use Rattle.qccd_program.specs.Turn.{at_turn}
use Rattle.qccd_program.specs.World.{World, opening_world, world_after, clock_of, log_of}

abbrev pub cell_in : World → Res → CellData
cell_in w r = record { content = content w.state r; clock = clock_of w.earlier r; log = log_of w.earlier r }

-- content, clock and log of the resource just before the operation that touches it as its n-th, counted
-- from 0, or at the end
abbrev pub cell_at : ProgramData → Res → ℕ → CellData
cell_at p r n = at_turn cell_in (world_after p.machine) (opening_world p) p.ops r n

-- of how many operations the resource is the first
abbrev pub firsts : List OpKind → Res → ℕ
firsts ops r = count_by (λ op. is_first op r) ops

-- a cell that holds this, with room in its log for each entry of the whole run
pub record IsCell (p : ProgramData) (r : Res) (n : ℕ) (c : Cell) : Type 0 where
  pub content : c.content ≡ (cell_at p r n).content
  pub clock : c.free_at ≡ (cell_at p r n).clock
  pub log : c.log.entries ≡ (cell_at p r n).log
  pub room : firsts p.ops r ≤ room_of c
