-- No fault applies to a valid machine, and the first fault is one.
use Rattle.std.proofs.Common.{◌≡◌, ℕ, ◌<◌, ◌≤◌, ◌⊎◌, inl, inr, length, get_or, Some, refl, sym, ◌∙◌, ap, subst, arith}
use Rattle.std.specs.Prelude.{slice_get}
use Rattle.std.proofs.lemmas.Option.{get_or_from_slice_get, slice_get_within}
use Rattle.qccd_base.specs.declared.names.Res.TheVariants as res
use Rattle.qccd_base.specs.Times.{times_of}
use Rattle.qccd_machine.specs.declared.place.Place.{Place}
use Rattle.qccd_machine.specs.declared.place.Place.TheVariants.{TrapEnd, Junction}
use Rattle.qccd_machine.specs.declared.fault.PartKind.TheVariants.{Traps, Segments, Junctions}
use Rattle.qccd_machine.specs.declared.fault.MachineFault.{MachineFault}
use Rattle.qccd_machine.specs.declared.fault.MachineFault.TheVariants.{NoTrap, TooMany, Capacity, EndTaken, BadEnd, SelfJoined, JunctionDegree, NotConnected, TableRange, NoMemory}
use Rattle.qccd_machine.specs.Machine.{MachineData, IsValid, IsThere, ends_at, same_place, site}
use Rattle.qccd_machine.specs.Fault.{Applies, Turn, turn_of, IsEarlier, IsToldBefore, IsFirst, TakesEnd}
use Rattle.qccd_base.proofs.FirstFailing.{one_first_to_apply}
use Rattle.qccd_machine.proofs.Counts.{HasOne, count_at_least_two}
use Rattle.qccd_machine.proofs.SamePlace.{same_place-refl}
use Rattle.qccd_machine.proofs.Turns.{named, named-turn_of}

-- the ends of a valid machine's segment
valid_ends : (m : MachineData) → IsValid m → (s : ℕ) (ends : Place × Place) → slice_get m.segments s ≡ Some ends → IsThere m ends.0 × IsThere m ends.1 × (site ends.0 ≡ site ends.1 → ⊥)
valid_ends m valid s ends is =
    let within : s < length m.segments = slice_get_within m.segments s ends is in
    let here : get_or m.segments s ends ≡ ends = get_or_from_slice_get m.segments s ends ends is in
    let there = subst (λ (x : Place × Place). IsThere m x.0 × IsThere m x.1) here (valid.ends_there s ends within) in
    let apart = subst (λ (x : Place × Place). site x.0 ≡ site x.1 → ⊥) here (valid.two_sites s ends within) in
    (there.0, there.1, apart)

-- a place that is taken is an end of a trap, and one of the ends
taken_end : (m : MachineData) → IsValid m → (s earlier : ℕ) (ends others : Place × Place) (place : Place) → earlier < s → slice_get m.segments earlier ≡ Some others → slice_get m.segments s ≡ Some ends
    → (ends.0 ≡ place) ⊎ (ends.1 ≡ place) → TakesEnd others place → ⊥
taken_end m valid s earlier ends others (TrapEnd t end) before is is' own takes =
    let twice : 2 ≤ ends_at m (TrapEnd t end) = count_at_least_two (same_place (TrapEnd t end)) m.segments earlier s others ends before is is' (has others takes) (has ends own) in
    omega (arith, twice, valid.ends_free t end)
  where
    has : (x : Place × Place) → (x.0 ≡ TrapEnd t end) ⊎ (x.1 ≡ TrapEnd t end) → HasOne (same_place (TrapEnd t end)) x
    has x h = elim h [
      | inl e ↦ inl (ap (same_place (TrapEnd t end)) e ∙ same_place-refl (TrapEnd t end))
      | inr e ↦ inr (ap (same_place (TrapEnd t end)) e ∙ same_place-refl (TrapEnd t end))
    ]
taken_end m valid s earlier ends others (Junction j) before is is' own takes = takes

pub none_applies : (m : MachineData) (fault : MachineFault) → IsValid m → Applies m fault → ⊥
none_applies m NoTrap valid h = omega (arith, valid.some_trap)
none_applies m (TooMany Traps) valid h = omega (arith, valid.few_traps)
none_applies m (TooMany Segments) valid h = omega (arith, valid.few_segments)
none_applies m (TooMany Junctions) valid h = omega (arith, valid.few_junctions)
none_applies m (Capacity t) valid (c, is, wrong) =
    let fits = subst (λ (n : ℕ). (2 ≤ n) × (n ≤ 32)) (get_or_from_slice_get m.capacities t.0 c c is) (valid.capacities t.0 c (slice_get_within m.capacities t.0 c is)) in
    elim wrong [ inl less ↦ omega (arith, fits.0) | inr more ↦ omega (arith, fits.1) ]
none_applies m (BadEnd s) valid (ends, is, missing) =
    let there = valid_ends m valid s.0 ends is in
    elim missing [ inl h ↦ h there.0 | inr h ↦ h there.1 ]
none_applies m (SelfJoined s) valid (ends, is, same) = (valid_ends m valid s.0 ends is).2 same
none_applies m (EndTaken s) valid (ends, is', (earlier, others, before, is, takes)) =
    elim takes [
      | inl h ↦ taken_end m valid s.0 earlier ends others ends.0 before is is' (inl refl) h
      | inr h ↦ taken_end m valid s.0 earlier ends others ends.1 before is is' (inr refl) h
    ]
none_applies m (JunctionDegree j) valid (within, wrong) =
    let fits = valid.degrees j.0 within in
    elim wrong [ inl less ↦ omega (arith, fits.0) | inr more ↦ omega (arith, fits.1) ]
none_applies m (NotConnected (res.Trap t)) valid (within, far) = far (valid.traps_reached t within)
none_applies m (NotConnected (res.Seg s)) valid h = h
none_applies m (NotConnected (res.Junc j)) valid (within, far) = far (valid.junctions_reached j within)
none_applies m (NotConnected (res.Bit b)) valid h = h
none_applies m (TableRange field) valid (t, is, long) =
    let short = subst (λ (n : ℕ). n ≤ 1000000) (get_or_from_slice_get (times_of m.times) field t t is) (valid.times field t (slice_get_within (times_of m.times) field t is)) in
    omega (arith, short)
none_applies m NoMemory valid h = h

-- of two turns neither of which is earlier
same_turn : (a b : Turn) → (IsEarlier a b → ⊥) → (IsEarlier b a → ⊥) → (a.check ≡ b.check) × (a.part ≡ b.part) × (a.question ≡ b.question)
same_turn a b h k =
    let checks : a.check ≡ b.check = grind arith in
    let parts : a.part ≡ b.part = grind arith in
    let questions : a.question ≡ b.question = grind arith in
    (checks, parts, questions)

-- of two faults neither of which is told before the other
same_fault : (fault other : MachineFault) → (IsToldBefore fault other → ⊥) → (IsToldBefore other fault → ⊥) → fault ≡ other
same_fault fault other h k =
    let same = same_turn (turn_of fault) (turn_of other) h k in
    sym (named-turn_of fault)
    ∙ ap (λ n. named n (turn_of fault).part (turn_of fault).question) same.0
    ∙ ap (λ n. named (turn_of other).check n (turn_of fault).question) same.1
    ∙ ap (λ n. named (turn_of other).check (turn_of other).part n) same.2
    ∙ named-turn_of other

pub one_first : (m : MachineData) (fault other : MachineFault) → IsFirst m fault → IsFirst m other → fault ≡ other
one_first m fault other first second = one_first_to_apply (Applies m) IsToldBefore same_fault fault other first second
