use Rattle.std.proofs.Common.{◌≡◌, ℕ, zero, suc, ◌<◌, ◌≤◌, ◌⊎◌, inl, inr, [], ◌∷◌, Some, slice_get, refl, arith}
use Rattle.std.proofs.lemmas.Option.{same_Some}
use Rattle.qccd_base.specs.declared.names.Res.TheVariants as res
use Rattle.qccd_machine.specs.declared.fault.PartKind.TheVariants.{Traps, Segments, Junctions}
use Rattle.qccd_machine.specs.declared.fault.MachineFault.{MachineFault}
use Rattle.qccd_machine.specs.declared.fault.MachineFault.TheVariants.{NoTrap, TooMany, Capacity, EndTaken, BadEnd, SelfJoined, JunctionDegree, NotConnected, TableRange, NoMemory}
use Rattle.qccd_machine.specs.Fault.{Applies, Turn, turn, turn_of, IsEarlier}
use Rattle.qccd_machine.specs.Line.{link, stray}
use Rattle.qccd_machine.proofs.worked.missing_trap.Goals as goal

pub returns-clause-invalid : goal.returns-clause-invalid
returns-clause-invalid c = λ valid. omega (arith, (valid.ends_there 0 (link 0) (omega arith)).1)

-- no turn of the checks of segments, or of a later check, is earlier than that of the first segment
late : (t : Turn) → 5 ≤ t.check → IsEarlier t (turn 5 0 0) → ⊥
late t from (inl before) = omega arith
late t from (inr (same, inl before)) = omega arith
late t from (inr (same, inr (part, before))) = omega arith

fitting : (t capacity : ℕ) → slice_get (3 ∷ []) t ≡ Some capacity → (capacity < 2) ⊎ (32 < capacity) → ⊥
fitting zero capacity is outside =
    let three : 3 ≡ capacity = same_Some 3 capacity is in elim outside [ inl low ↦ omega arith | inr high ↦ omega arith ]
fitting (suc t) capacity is outside = cc

none_earlier : (other : MachineFault) → IsEarlier (turn_of other) (turn 5 0 0) → Applies stray other → ⊥
none_earlier NoTrap early applies = omega arith
none_earlier (TooMany Traps) early applies = omega arith
none_earlier (TooMany Segments) early applies = omega arith
none_earlier (TooMany Junctions) early applies = omega arith
none_earlier (Capacity t) early (capacity, is, outside) = fitting t.0 capacity is outside
none_earlier (EndTaken s) early applies = late (turn 5 s.0 2) (omega arith) early
none_earlier (BadEnd s) early applies = late (turn 5 s.0 0) (omega arith) early
none_earlier (SelfJoined s) early applies = late (turn 5 s.0 1) (omega arith) early
none_earlier (JunctionDegree j) early applies = late (turn 6 j.0 0) (omega arith) early
none_earlier (NotConnected (res.Trap t)) early applies = late (turn 7 t.0 0) (omega arith) early
none_earlier (NotConnected (res.Seg s)) early applies = applies
none_earlier (NotConnected (res.Junc j)) early applies = late (turn 8 j.0 0) (omega arith) early
none_earlier (NotConnected (res.Bit b)) early applies = applies
none_earlier (TableRange field) early applies = late (turn 9 field 0) (omega arith) early
none_earlier NoMemory early applies = applies

pub returns-clause-first : goal.returns-clause-first
returns-clause-first c = record { applies = (link 0, refl, inr (λ there. omega arith)); none_earlier = none_earlier }
