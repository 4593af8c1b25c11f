-- What hops do, and what making room does.
use Rattle.std.specs.Prelude.{◌≡◌, ◌≢◌, ℕ, ◌<◌, true, List, length, Some}
use Rattle.qccd_base.specs.Names.{trap}
use Rattle.qccd_base.specs.declared.names.Qubit.{Qubit}
use Rattle.qccd_machine.specs.Machine.{MachineData}
use Rattle.op_table.specs.declared.kinds.OpKind.{OpKind}
use Rattle.op_table.specs.State.{State}
use Rattle.op_table.specs.Run.{IsRun, after}
use Rattle.op_plan.specs.Place.{home}
use Rattle.rebalancer.specs.Outside.{NothingOutside}
use Rattle.rebalancer.specs.Room.{has_room}

-- the operations run, and nothing is outside the traps then. The qubit stands in trap t, and every other
-- one in the trap in which it stood
pub record Moves (m : MachineData) (s : State) (q : Qubit) (t : ℕ) (ops : List OpKind) : Type 0 where
  pub run : IsRun m s ops
  pub outside : NothingOutside (after m s ops)
  pub there : home (after m s ops) q ≡ Some (trap t)
  pub others : (r : Qubit) → r.0 < length s.ions → r.0 ≢ q.0 → home (after m s ops) r ≡ home s r

-- the operations run, and nothing is outside the traps then. The trap has a free slot, and the two kept
-- qubits stand in the traps in which they stood
pub record MakesRoom (m : MachineData) (s : State) (t : ℕ) (keep : Qubit × Qubit) (ops : List OpKind) : Type 0 where
  pub run : IsRun m s ops
  pub outside : NothingOutside (after m s ops)
  pub room : has_room m (after m s ops) t ≡ true
  pub first : home (after m s ops) keep.0 ≡ home s keep.0
  pub second : home (after m s ops) keep.1 ≡ home s keep.1
