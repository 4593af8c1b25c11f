-- Why parts make no machine.
use Rattle.std.specs.Prelude.{◌≡◌, ℕ, ◌<◌, ◌⊎◌, length, Some, slice_get}
use Rattle.qccd_base.specs.declared.names.Res.TheVariants as res
use Rattle.qccd_base.specs.FirstFailing.{IsFirstToApply}
use Rattle.qccd_base.specs.Times.{times_of}
use Rattle.qccd_machine.specs.declared.place.Place.{Place}
use Rattle.qccd_machine.specs.declared.place.Place.TheVariants.{TrapEnd, Junction}
use Rattle.qccd_machine.specs.declared.parts.Parts.{Parts}
use Rattle.qccd_machine.specs.declared.fault.PartKind.TheVariants.{Traps, Segments, Junctions}
use Rattle.qccd_machine.specs.declared.fault.MachineFault.{MachineFault}
use Rattle.qccd_machine.specs.declared.fault.MachineFault.TheVariants.{NoTrap, TooMany, Capacity, EndTaken, BadEnd, SelfJoined, JunctionDegree, NotConnected, TableRange, NoMemory}
use Rattle.qccd_machine.specs.Machine.{MachineData, IsThere, site, degree_of, IsReached}

-- the machine that parts would make
abbrev pub data_of : Parts → MachineData
data_of parts = record {
  capacities = parts.capacities.items;
  junctions = parts.junctions;
  segments = parts.segments.items;
  times = parts.times;
}

-- the place is an end of a trap, and one of these two
abbrev pub TakesEnd : Place × Place → Place → Type 0
TakesEnd ends (TrapEnd t end) = (ends.0 ≡ TrapEnd t end) ⊎ (ends.1 ≡ TrapEnd t end)
TakesEnd ends (Junction j) = ⊥

-- an end of the segment is at a trap or a junction that is not there
abbrev pub HasMissingEnd : MachineData → Place × Place → Type 0
HasMissingEnd m ends = (IsThere m ends.0 → ⊥) ⊎ (IsThere m ends.1 → ⊥)

-- an earlier segment has an end of a trap that is one of these two ends
abbrev pub HasTakenEnd : MachineData → ℕ → Place × Place → Type 0
HasTakenEnd m s ends = (earlier : ℕ) × (others : Place × Place) × (earlier < s)
    × (slice_get m.segments earlier ≡ Some others) × (TakesEnd others ends.0 ⊎ TakesEnd others ends.1)

-- the fault is one of the parts
abbrev pub Applies : MachineData → MachineFault → Type 0
Applies m NoTrap = length m.capacities ≡ 0
Applies m (TooMany Traps) = 32 < length m.capacities
Applies m (TooMany Segments) = 128 < length m.segments
Applies m (TooMany Junctions) = 64 < m.junctions
Applies m (Capacity t) = (c : ℕ) × (slice_get m.capacities t.0 ≡ Some c) × ((c < 2) ⊎ (32 < c))
Applies m (BadEnd s) = (ends : Place × Place) × (slice_get m.segments s.0 ≡ Some ends) × HasMissingEnd m ends
Applies m (SelfJoined s) = (ends : Place × Place) × (slice_get m.segments s.0 ≡ Some ends) × (site ends.0 ≡ site ends.1)
Applies m (EndTaken s) = (ends : Place × Place) × (slice_get m.segments s.0 ≡ Some ends) × HasTakenEnd m s.0 ends
Applies m (JunctionDegree j) = (j.0 < m.junctions) × ((degree_of m j.0 < 2) ⊎ (4 < degree_of m j.0))
Applies m (NotConnected (res.Trap t)) = (t.0 < length m.capacities) × (IsReached m (res.Trap t) → ⊥)
Applies m (NotConnected (res.Seg s)) = ⊥
Applies m (NotConnected (res.Junc j)) = (j.0 < m.junctions) × (IsReached m (res.Junc j) → ⊥)
Applies m (NotConnected (res.Bit b)) = ⊥
Applies m (TableRange field) = (t : ℕ) × (slice_get (times_of m.times) field ≡ Some t) × (1000000 < t)
Applies m NoMemory = ⊥

-- a fault's turn: which check finds it, at which part, and by which question of several
pub record Turn : Type 0 where
  pub check : ℕ
  pub part : ℕ
  pub question : ℕ

abbrev pub turn : ℕ → ℕ → ℕ → Turn
turn check part question = record { check = check; part = part; question = question }

abbrev pub turn_of : MachineFault → Turn
turn_of NoTrap = turn 0 0 0
turn_of (TooMany Traps) = turn 1 0 0
turn_of (TooMany Segments) = turn 2 0 0
turn_of (TooMany Junctions) = turn 3 0 0
turn_of (Capacity t) = turn 4 t.0 0
turn_of (BadEnd s) = turn 5 s.0 0
turn_of (SelfJoined s) = turn 5 s.0 1
turn_of (EndTaken s) = turn 5 s.0 2
turn_of (JunctionDegree j) = turn 6 j.0 0
turn_of (NotConnected (res.Trap t)) = turn 7 t.0 0
turn_of (NotConnected (res.Seg s)) = turn 7 s.0 1
turn_of (NotConnected (res.Junc j)) = turn 8 j.0 0
turn_of (NotConnected (res.Bit b)) = turn 8 b.0 1
turn_of (TableRange field) = turn 9 field 0
turn_of NoMemory = turn 10 0 0

-- a turn is earlier than another
abbrev pub IsEarlier : Turn → Turn → Type 0
IsEarlier a b = (a.check < b.check)
    ⊎ ((a.check ≡ b.check) × ((a.part < b.part) ⊎ ((a.part ≡ b.part) × (a.question < b.question))))

-- a fault is told before another
abbrev pub IsToldBefore : MachineFault → MachineFault → Type 0
IsToldBefore fault other = IsEarlier (turn_of fault) (turn_of other)

-- the fault is the first that applies
abbrev pub IsFirst : MachineData → MachineFault → Type 0
IsFirst m fault = IsFirstToApply (Applies m) IsToldBefore fault
