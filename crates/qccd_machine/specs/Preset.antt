-- The machines that are known by name.
use Rattle.std.specs.Prelude.{ℕ, List, [], ◌∷◌, replicate}
use Rattle.qccd_base.specs.Names.{trap, junction}
use Rattle.qccd_base.specs.Times.{usual}
use Rattle.qccd_base.specs.declared.names.End.TheVariants.{Left, Right}
use Rattle.qccd_machine.specs.declared.place.Place.{Place}
use Rattle.qccd_machine.specs.declared.place.Place.TheVariants.{TrapEnd, Junction}
use Rattle.qccd_machine.specs.declared.place.Preset.{Preset}
use Rattle.qccd_machine.specs.declared.place.Preset.TheVariants.{L6, G2x3, Single}
use Rattle.qccd_machine.specs.Machine.{MachineData}

-- the machine of one trap
abbrev pub single : ℕ → MachineData
single capacity = record { capacities = capacity ∷ []; junctions = 0; segments = []; times = usual }

-- the places of ends of segments
abbrev pub at_left : ℕ → Place
at_left t = TrapEnd (trap t) Left

abbrev pub at_right : ℕ → Place
at_right t = TrapEnd (trap t) Right

abbrev pub at_junction : ℕ → Place
at_junction j = Junction (junction j)

-- six traps in a line: the two ends of each segment, end A first
abbrev pub line_of_six : List (Place × Place)
line_of_six =
    (at_right 0, at_left 1)
    ∷ (at_right 1, at_left 2)
    ∷ (at_right 2, at_left 3)
    ∷ (at_right 3, at_left 4)
    ∷ (at_right 4, at_left 5)
    ∷ []

-- six traps in two rows of three, with two junctions in each row that are joined to those of the other
abbrev pub two_rows : List (Place × Place)
two_rows =
    (at_right 0, at_junction 0)
    ∷ (at_junction 0, at_left 1)
    ∷ (at_right 1, at_junction 1)
    ∷ (at_junction 1, at_left 2)
    ∷ (at_right 3, at_junction 2)
    ∷ (at_junction 2, at_left 4)
    ∷ (at_right 4, at_junction 3)
    ∷ (at_junction 3, at_left 5)
    ∷ (at_junction 0, at_junction 2)
    ∷ (at_junction 1, at_junction 3)
    ∷ []

-- so many traps of one capacity and so many junctions, joined by these segments, with the usual times
abbrev pub wired : ℕ → ℕ → ℕ → List (Place × Place) → MachineData
wired traps capacity junctions segments = record {
  capacities = replicate traps capacity;
  junctions = junctions;
  segments = segments;
  times = usual;
}

-- the machine of the name, with traps of this capacity
abbrev pub preset_of : Preset → ℕ → MachineData
preset_of L6 capacity = wired 6 capacity 0 line_of_six
preset_of G2x3 capacity = wired 6 capacity 4 two_rows
preset_of Single capacity = single capacity
