-- Which cells show a state.
use Rattle.std.specs.Prelude.{◌≡◌, List, length, Some, slice_get}
use Rattle.qccd_base.specs.declared.names.Res.{Res}
use Rattle.qccd_machine.specs.Machine.{MachineData}
use Rattle.op_table.specs.State.{State, IsSafe}
use Rattle.op_table.specs.Contents.{content}
use Rattle.op_cells.specs.declared.cells.Cell.{Cell}
use Rattle.op_cells.specs.Numbering.{count_of, index_of, IsThere}

-- there is a cell for each resource, and it holds what the resource holds in the state
pub record Shows (m : MachineData) (s : State) (cells : List Cell) : Type 0 where
  pub long : length cells ≡ count_of m s.bits
  pub each : (r : Res) → IsThere m s.bits r → (c : Cell) × (slice_get cells (index_of m r) ≡ Some c) × (c.content ≡ content s r)

-- the cells are of this machine: they show a state in which every place keeps its bound
pub record AreOf (m : MachineData) (cells : List Cell) : Type 0 where
  pub state : State
  pub safe : IsSafe m state
  pub shows : Shows m state cells
