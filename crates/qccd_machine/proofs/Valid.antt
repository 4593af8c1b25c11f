-- Parts in which no fault applies are valid, and in valid ones none applies.
use Rattle.std.proofs.Common.{◌≡◌, ℕ, ◌<◌, ◌≤◌, ◌⊎◌, inl, inr, List, length, get_or, Some, sym, ◌∙◌, ap, subst, arith}
use Rattle.std.specs.Prelude.{slice_get, All}
use Rattle.std.proofs.lemmas.Bool.{cases_lt}
use Rattle.std.proofs.lemmas.Option.{slice_get-get_or}
use Rattle.qccd_base.specs.declared.names.End.{End}
use Rattle.qccd_base.specs.declared.names.TrapId.{TrapId}
use Rattle.qccd_base.specs.declared.names.Res.TheVariants as res
use Rattle.qccd_base.specs.Times.{times_of}
use Rattle.qccd_machine.specs.declared.place.Place.{Place}
use Rattle.qccd_machine.specs.declared.place.Place.TheVariants.{TrapEnd}
use Rattle.qccd_machine.specs.declared.fault.PartKind.TheVariants.{Traps, Segments, Junctions}
use Rattle.qccd_machine.specs.declared.fault.MachineFault.{MachineFault}
use Rattle.qccd_machine.specs.declared.fault.MachineFault.TheVariants.{NoTrap, TooMany, Capacity, EndTaken, BadEnd, SelfJoined, JunctionDegree, NotConnected, TableRange}
use Rattle.qccd_machine.specs.Machine.{MachineData, IsValid, IsThere, degree_of, ends_at, same_place, site}
use Rattle.qccd_machine.specs.Fault.{Applies, turn_of, TakesEnd}
use Rattle.qccd_machine.specs.Search.{check, NoneWithin}
use Rattle.qccd_machine.proofs.Counts.{HasOne, count_at_most_one}
use Rattle.qccd_machine.proofs.Linked.{reached_or_not}
use Rattle.qccd_machine.proofs.SamePlace.{same_place-true}
use Rattle.qccd_machine.proofs.SegmentEnds.{is_there}

at_most : (a b : ℕ) → (b < a → ⊥) → a ≤ b
at_most a b h = elim (cases_lt b a) [ inl less ↦ absurd (h less) | inr more ↦ more ]

-- the ends that a fault of a segment speaks of
found : (xs : List (Place × Place)) (k : ℕ) (d : Place × Place) → k < length xs → slice_get xs k ≡ Some (get_or xs k d)
found xs k d within = slice_get-get_or xs k d within

pub there_from_none : (m : MachineData) → ((s : ℕ) → Applies m (BadEnd (record { 0 = s })) → ⊥) → All (λ s. IsThere m s.0 × IsThere m s.1) m.segments
there_from_none m none k d within =
    let bad : (IsThere m (get_or m.segments k d).0 → ⊥) ⊎ (IsThere m (get_or m.segments k d).1 → ⊥) → ⊥ = λ missing. none k (get_or m.segments k d, found m.segments k d within, missing) in (
      elim (is_there m (get_or m.segments k d).0) [ inl h ↦ h | inr h ↦ absurd (bad (inl h)) ],
      elim (is_there m (get_or m.segments k d).1) [ inl h ↦ h | inr h ↦ absurd (bad (inr h)) ],
    )

-- one of the ends is the end of a trap
taken_from_one : (t : TrapId) (end : End) (ends others : Place × Place) → HasOne (same_place (TrapEnd t end)) ends → HasOne (same_place (TrapEnd t end)) others → TakesEnd ends others.0 ⊎ TakesEnd ends others.1
taken_from_one t end ends others has has' =
    let p : Place = TrapEnd t end in
    let takes : TakesEnd ends p = elim has [ inl h ↦ inl (sym (same_place-true p ends.0 h)) | inr h ↦ inr (sym (same_place-true p ends.1 h)) ] in
    elim has' [
      | inl h ↦ inl (subst (TakesEnd ends) (same_place-true p others.0 h) takes)
      | inr h ↦ inr (subst (TakesEnd ends) (same_place-true p others.1 h) takes)
    ]

free_from_none : (m : MachineData) → ((s : ℕ) → Applies m (SelfJoined (record { 0 = s })) → ⊥) → ((s : ℕ) → Applies m (EndTaken (record { 0 = s })) → ⊥)
    → (t : TrapId) (end : End) → ends_at m (TrapEnd t end) ≤ 1
free_from_none m apart free t end =
    count_at_most_one (same_place (TrapEnd t end)) m.segments
    (λ k ends is h h'. apart k (ends, is, ap site (sym (same_place-true (TrapEnd t end) ends.0 h) ∙ same_place-true (TrapEnd t end) ends.1 h')))
    (λ i k ends others before is is' has has'. free k (others, is', (i, ends, before, is, taken_from_one t end ends others has has')))

pub valid_from_none : (m : MachineData) → NoneWithin m (check 0) (check 10) → IsValid m
valid_from_none m none =
    let fails : (fault : MachineFault) → (turn_of fault).check < 10 → Applies m fault → ⊥ = λ fault early. none fault ((λ e. omega arith), inl early) in record {
      some_trap = elim (cases_lt 0 (length m.capacities)) [ inl h ↦ h | inr h ↦ absurd (fails NoTrap (omega arith) (omega arith)) ];
      few_traps = at_most (length m.capacities) 32 (fails (TooMany Traps) (omega arith));
      few_segments = at_most (length m.segments) 128 (fails (TooMany Segments) (omega arith));
      few_junctions = at_most m.junctions 64 (fails (TooMany Junctions) (omega arith));
      capacities = λ k d within.
          let fits : ((get_or m.capacities k d < 2) ⊎ (32 < get_or m.capacities k d)) → ⊥ = λ wrong. fails (Capacity (record { 0 = k })) (omega arith) (get_or m.capacities k d, slice_get-get_or m.capacities k d within, wrong) in
          (at_most 2 (get_or m.capacities k d) (λ h. fits (inl h)), at_most (get_or m.capacities k d) 32 (λ h. fits (inr h)));
      ends_there = there_from_none m (λ s. fails (BadEnd (record { 0 = s })) (omega arith));
      two_sites = λ k d within same. fails (SelfJoined (record { 0 = k })) (omega arith) (get_or m.segments k d, found m.segments k d within, same);
      ends_free = free_from_none m (λ s. fails (SelfJoined (record { 0 = s })) (omega arith)) (λ s. fails (EndTaken (record { 0 = s })) (omega arith));
      degrees = λ j within.
          let fits : ((degree_of m j < 2) ⊎ (4 < degree_of m j)) → ⊥ = λ wrong. fails (JunctionDegree (record { 0 = j })) (omega arith) (within, wrong) in
          (at_most 2 (degree_of m j) (λ h. fits (inl h)), at_most (degree_of m j) 4 (λ h. fits (inr h)));
      traps_reached = λ t within. elim (reached_or_not m (res.Trap t)) [ inl h ↦ h | inr h ↦ absurd (fails (NotConnected (res.Trap t)) (omega arith) (within, h)) ];
      junctions_reached = λ j within. elim (reached_or_not m (res.Junc j)) [ inl h ↦ h | inr h ↦ absurd (fails (NotConnected (res.Junc j)) (omega arith) (within, h)) ];
      times = λ k d within. at_most (get_or (times_of m.times) k d) 1000000 (λ h. fails (TableRange k) (omega arith) (get_or (times_of m.times) k d, slice_get-get_or (times_of m.times) k d within, h));
    }
