-- What is told of parts that make no machine.
use Rattle.std.specs.Prelude.{ℕ, List, [], ◌∷◌, codes, decimal}
use Rattle.std.specs.List.{concat}
use Rattle.qccd_base.specs.declared.names.Res.TheVariants as res
use Rattle.qccd_machine.specs.declared.fault.PartKind.TheVariants.{Traps, Segments, Junctions}
use Rattle.qccd_machine.specs.declared.fault.MachineFault.{MachineFault}
use Rattle.qccd_machine.specs.declared.fault.MachineFault.TheVariants.{NoTrap, TooMany, Capacity, EndTaken, BadEnd, SelfJoined, JunctionDegree, NotConnected, TableRange, NoMemory}
use Rattle.qccd_machine.specs.TimeName.{time_name_of}

-- a number between two texts
abbrev pub numbered : List ℕ → ℕ → List ℕ → List ℕ
numbered before n after = concat (before ∷ decimal n ∷ after ∷ [])

abbrev pub fault_text : MachineFault → List ℕ
fault_text NoTrap = codes "no trap"
fault_text (TooMany Traps) = codes "too many traps"
fault_text (TooMany Segments) = codes "too many segments"
fault_text (TooMany Junctions) = codes "too many junctions"
fault_text (Capacity t) = numbered (codes "trap T") t.0 (codes " has a capacity outside 2 to 32")
fault_text (EndTaken s) = numbered (codes "segment S") s.0 (codes " takes an end that is taken")
fault_text (BadEnd s) = numbered (codes "segment S") s.0 (codes " names a missing place")
fault_text (SelfJoined s) = numbered (codes "segment S") s.0 (codes " joins a place to itself")
fault_text (JunctionDegree j) = numbered (codes "junction J") j.0 (codes " does not join 2 to 4 segments")
fault_text (NotConnected (res.Trap t)) = numbered (codes "T") t.0 (codes " is out of reach")
fault_text (NotConnected (res.Junc j)) = numbered (codes "J") j.0 (codes " is out of reach")
-- these two never come
fault_text (NotConnected (res.Seg s)) = numbered (codes "S") s.0 (codes " is out of reach")
fault_text (NotConnected (res.Bit b)) = numbered (codes "b") b.0 (codes " is out of reach")
fault_text (TableRange field) = concat (codes "time " ∷ time_name_of field ∷ codes " is above 1000000" ∷ [])
fault_text NoMemory = codes "no memory"
