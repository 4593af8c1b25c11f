use Rattle.std.specs.Prelude.{ℕ, ◌+◌, ◌-◌, [], ◌∷◌, map, replicate}
use Rattle.std.specs.List.{range_with_len}
use Rattle.qccd_base.specs.Names.{trap}
use Rattle.qccd_base.specs.Times.{usual}
use Rattle.qccd_base.specs.declared.names.End.TheVariants.{Left, Right}
use Rattle.qccd_machine.specs.declared.place.Place.{Place}
use Rattle.qccd_machine.specs.declared.place.Place.TheVariants.{TrapEnd}
use Rattle.qccd_machine.specs.Machine.{MachineData}

-- segment i of a line: from the right end of trap i to the left end of the next
abbrev pub link : ℕ → Place × Place
link i = (TrapEnd (trap i) Right, TrapEnd (trap (i + 1)) Left)

-- a line of traps of one capacity
abbrev pub line : ℕ → ℕ → MachineData
line traps capacity = record {
  capacities = replicate traps capacity;
  junctions = 0;
  segments = map link (range_with_len 0 (traps - 1));
  times = usual;
}

-- one trap, and a segment to a second one that is not there
abbrev pub stray : MachineData
stray = record { capacities = 3 ∷ []; junctions = 0; segments = link 0 ∷ []; times = usual }
