-- A trap that is cooled, and cells that are made of contents and clocks.
use Rattle.std.specs.Prelude.{◌≡◌, ℕ, ◌+◌, false, List, [], ◌∷◌, length, Some, option_map, slice_get}
use Rattle.qccd_base.specs.declared.names.TrapId.{TrapId}
use Rattle.qccd_base.specs.declared.names.Res.{Res}
use Rattle.qccd_base.specs.declared.names.Res.TheVariants as res
use Rattle.qccd_base.specs.Resource.{same_res}
use Rattle.qccd_machine.specs.Machine.{MachineData}
use Rattle.op_table.specs.declared.contents.Content.{Content}
use Rattle.op_cells.specs.declared.cells.Cell.{Cell}
use Rattle.op_cells.specs.declared.cooling.CoolTimes.{CoolTimes}
use Rattle.op_cells.specs.Acted.{CellData, room_of}
use Rattle.op_cells.specs.Cold.{cooled}
use Rattle.op_cells.specs.Numbering.{index_of, IsThere}
use Rattle.op_cells.specs.OneRun.{read_at}

-- how long a cool takes, in microseconds
abbrev pub cool_time : ℕ
cool_time = 400

-- a cell after a cool: cold, and free so much later
abbrev pub rested : Cell → Cell
rested c = record c { content = cooled c.content; free_at = c.free_at + cool_time }

-- the same of what is read of it
abbrev pub rested_data : CellData → CellData
rested_data d = record d { content = cooled d.content; clock = d.clock + cool_time }

abbrev pub cool_times : CellData → CoolTimes
cool_times d = record { start = d.clock; finish = d.clock + cool_time }

-- the trap was cooled at these times, and all else stayed
pub record Rests (m : MachineData) (bits : ℕ) (t : TrapId) (times : CoolTimes) (old new : List Cell) : Type 0 where
  pub long : length new ≡ length old
  pub cooled : (d : CellData) → read_at m old (res.Trap t) ≡ Some d → (read_at m new (res.Trap t) ≡ Some (rested_data d)) × (times ≡ cool_times d)
  pub others : (r : Res) → IsThere m bits r → same_res (res.Trap t) r ≡ false → slice_get new (index_of m r) ≡ slice_get old (index_of m r)
  pub room : (i : ℕ) → option_map room_of (slice_get new i) ≡ option_map room_of (slice_get old i)

-- a cell of this content and clock, and an empty log with so much room; such cells, one for each
abbrev pub fresh : Content × ℕ → ℕ → Cell
fresh state room = record { content = state.0; free_at = state.1; log = record { entries = []; spare = room } }

abbrev pub fresh_cells : List (Content × ℕ) → List ℕ → List Cell
fresh_cells [] rooms = []
fresh_cells (s ∷ states) [] = []
fresh_cells (s ∷ states) (n ∷ rooms) = fresh s n ∷ fresh_cells states rooms
