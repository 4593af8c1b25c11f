-- The part of a machine on which routes depend: how many traps and junctions there are, and what the segments join.
use Rattle.std.specs.Prelude.{◌≡◌, ℕ, List, length}
use Rattle.qccd_machine.specs.declared.place.Place.{Place}
use Rattle.qccd_machine.specs.Machine.{MachineData, IsValid}

pub record WiringData : Type 0 where
  pub traps : ℕ
  pub junctions : ℕ
  pub segments : List (Place × Place)

-- the wiring of a machine
abbrev pub wiring_of : MachineData → WiringData
wiring_of m = record { traps = length m.capacities; junctions = m.junctions; segments = m.segments }

-- some valid machine is wired so
pub record IsWiring (w : WiringData) : Type 0 where
  pub machine : MachineData
  pub valid : IsValid machine
  pub is : wiring_of machine ≡ w
