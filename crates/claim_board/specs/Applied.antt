-- An operation applied to the cells that a claim got.
use Rattle.std.specs.Prelude.{◌≡◌, ℕ, ◌<◌, ◌^◌, List, map, take, All}
use Rattle.qccd_machine.specs.Machine.{MachineData}
use Rattle.op_table.specs.Contents.{heat_held}
use Rattle.op_table.specs.Touch.{touches}
use Rattle.op_table.specs.declared.kinds.OpKind.{OpKind}
use Rattle.op_cells.specs.Acted.{acted_on, data_of, room_of}
use Rattle.op_cells.specs.Settled.{IsLegalOn, contents_of}
use Rattle.op_cells.specs.declared.cells.Held.{Held}

-- what `apply` asks: these are the cells that the operation touches, on which it is legal; clocks and heats are
-- in range, and the first log has room
pub record MayApply (m : MachineData) (op : OpKind) (held : List Held) : Type 0 where
  pub names : map (λ h. h.res) held ≡ touches op
  pub legal : IsLegalOn m op (contents_of held)
  pub clocks : All (λ h. h.cell.free_at < 2 ^ 62) held
  pub heats : All (λ h. heat_held h.cell.content < 2 ^ 62) held
  pub room : All (λ h. 0 < h.cell.log.spare) (take 1 held)

-- what it leaves
pub record Applied (m : MachineData) (k : ℕ) (op : OpKind) (old new : List Held) : Type 0 where
  pub cells : map (λ h. data_of h.cell) new ≡ acted_on m k op (map (λ h. data_of h.cell) old)
  pub names : map (λ h. h.res) new ≡ map (λ h. h.res) old
  pub room : map (λ h. room_of h.cell) new ≡ map (λ h. room_of h.cell) old
