-- Small parts that make no machine, for the worked examples.
use Rattle.std.specs.Prelude.{ℕ, List, [], ◌∷◌}
use Rattle.qccd_base.specs.Times.{usual}
use Rattle.qccd_machine.specs.declared.place.Place.{Place}
use Rattle.qccd_machine.specs.Machine.{MachineData}

-- two traps of two ions, with so many junctions and these segments
abbrev pub two_traps : ℕ → List (Place × Place) → MachineData
two_traps junctions segments = record { capacities = 2 ∷ 2 ∷ []; junctions = junctions; segments = segments; times = usual }
