-- What is joined where.
use Rattle.std.specs.Prelude.{◌≡◌, ℕ, ◌⊎◌, Some, slice_get}
use Rattle.qccd_machine.specs.declared.place.Place.{Place}
use Rattle.qccd_machine.specs.Machine.{MachineData}

-- segment s has an end at the place
pub record IsJoined (m : MachineData) (p : Place) (s : ℕ) : Type 0 where
  pub ends : Place × Place
  pub there : slice_get m.segments s ≡ Some ends
  pub at_place : (ends.0 ≡ p) ⊎ (ends.1 ≡ p)
