-- Each machine of parts is valid, or has a first fault: the checks in order, each over its parts in order.
use Rattle.std.proofs.Common.{◌≡◌, ℕ, zero, suc, ◌+◌, ◌<◌, ◌≤◌, ◌⊎◌, inl, inr, length, get_or, Some, refl, subst, add-one, arith}
use Rattle.std.specs.Prelude.{slice_get}
use Rattle.std.proofs.lemmas.Bool.{cases_lt}
use Rattle.std.proofs.lemmas.Option.{slice_get-get_or, slice_get_within}
use Rattle.qccd_base.specs.declared.names.End.TheVariants.{Left}
use Rattle.qccd_base.specs.declared.names.Res.TheVariants as res
use Rattle.qccd_base.specs.Times.{times_of}
use Rattle.qccd_machine.specs.declared.place.Place.{Place}
use Rattle.qccd_machine.specs.declared.place.Place.TheVariants.{TrapEnd}
use Rattle.qccd_machine.specs.declared.fault.PartKind.TheVariants.{Traps, Segments, Junctions}
use Rattle.qccd_machine.specs.declared.fault.MachineFault.{MachineFault}
use Rattle.qccd_machine.specs.declared.fault.MachineFault.TheVariants.{NoTrap, TooMany, Capacity, EndTaken, BadEnd, SelfJoined, JunctionDegree, NotConnected, TableRange}
use Rattle.qccd_machine.specs.Machine.{MachineData, IsValid, IsThere, degree_of, site}
use Rattle.qccd_machine.specs.Fault.{Applies, turn, turn_of, IsEarlier, IsFirst, TakesEnd, HasTakenEnd}
use Rattle.qccd_machine.specs.Search.{check, at_counts, at_capacities, at_segments, at_degrees, at_far_traps, NoneWithin, IsFirstWithin}
use Rattle.qccd_machine.proofs.Decided.{Decided, decided_both, decided_one, decided_less, decided_same, decided_takes, decided_below, decided_at}
use Rattle.qccd_machine.proofs.Linked.{reached_or_not}
use Rattle.qccd_machine.proofs.Questions.{capacity_passed, time_passed, time_found, degree_passed, trap_passed, trap_far, junction_passed, junction_far}
use Rattle.qccd_machine.proofs.SegmentEnds.{is_there, bad_end, self_joined, end_taken, ends_passed}
use Rattle.qccd_machine.proofs.Turns.{named, none_joined, first_after, first_widened, applies_named, of_segment, of_trap, of_junction}
use Rattle.qccd_machine.proofs.Valid.{valid_from_none}

-- what a check finds where it has come to a part: nothing before the next part, or its first fault
abbrev Step : MachineData → ℕ → ℕ → Type 0
Step m number part = NoneWithin m (check number) (turn number part 0)
    → NoneWithin m (check number) (turn number (part + 1) 0) ⊎ ((fault : MachineFault) × IsFirstWithin m (check number) (check (number + 1)) fault)

-- what all checks before one find
abbrev Found : MachineData → ℕ → Type 0
Found m number = NoneWithin m at_counts (check number) ⊎ ((fault : MachineFault) × IsFirst m fault)

none_at_first : (m : MachineData) (number : ℕ) → NoneWithin m (check number) (turn number 0 0)
none_at_first m number fault within applies = within.0 within.1

parts_searched : (m : MachineData) (number count : ℕ) → ((part : ℕ) → part < count → Step m number part)
    → NoneWithin m (check number) (turn number count 0) ⊎ ((fault : MachineFault) × IsFirstWithin m (check number) (check (number + 1)) fault)
parts_searched m number zero step = inl (none_at_first m number)
parts_searched m number (suc count) step = elim (parts_searched m number count (λ part early. step part (omega arith))) [
  | inl none ↦ elim (step count (omega arith) none) [
    | inl more ↦ inl (subst (λ (n : ℕ). NoneWithin m (check number) (turn number n 0)) (add-one count) more)
    | inr found ↦ inr found
  ]
  | inr found ↦ inr found
]

-- no fault of the parts past the last applies
none_past : (m : MachineData) (number count : ℕ) → ((part question : ℕ) → count ≤ part → Applies m (named number part question) → ⊥)
    → NoneWithin m (turn number count 0) (check (number + 1))
none_past m number count fails fault within applies =
    let check_is : (turn_of fault).check ≡ number = grind arith in
    let past : count ≤ (turn_of fault).part = grind arith in
    fails (turn_of fault).part (turn_of fault).question past (applies_named m fault number (turn_of fault).part check_is refl applies)

-- one check more
searched : (m : MachineData) (number count : ℕ) → ((part : ℕ) → part < count → Step m number part)
    → ((part question : ℕ) → count ≤ part → Applies m (named number part question) → ⊥)
    → Found m number → Found m (number + 1)
searched m number count step past before = elim before [
  | inr found ↦ inr found
  | inl none ↦ elim (parts_searched m number count step) [
    | inl own ↦ inl (none_joined m at_counts (check number) (check (number + 1)) none
        (none_joined m (check number) (turn number count 0) (check (number + 1)) own (none_past m number count past)))
    | inr found ↦ inr (found.0, first_after m (check number) (check (number + 1)) found.0 none found.1)
  ]
]

-- ---- the counts

-- one check more, of one fault alone
asked : (m : MachineData) (number : ℕ) (fault : MachineFault) → turn_of fault ≡ check number → ((part question : ℕ) → named number part question ≡ fault)
    → Decided (Applies m fault) → Found m number → Found m (number + 1)
asked m number fault own only answer before = elim before [
  | inr found ↦ inr found
  | inl none ↦ elim answer [
    | inl applies ↦ inr (
      fault,
      record {
        applies = applies;
        none_earlier = λ other earlier. none other ((λ e. omega arith), subst (IsEarlier (turn_of other)) own earlier);
      },
    )
    | inr fits ↦ inl (none_joined m at_counts (check number) (check (number + 1)) none
        (none_past m number 0 (λ part question _ applies. fits (subst (Applies m) (only part question) applies))))
  ]
]

counts_searched : (m : MachineData) → Found m 4
counts_searched m =
    asked m 3 (TooMany Junctions) refl (λ _ _. refl) (decided_less 64 m.junctions)
    (asked m 2 (TooMany Segments) refl (λ _ _. refl) (decided_less 128 (length m.segments))
    (asked m 1 (TooMany Traps) refl (λ _ _. refl) (decided_less 32 (length m.capacities))
    (asked m 0 NoTrap refl (λ _ _. refl)
    (elim (cases_lt 0 (length m.capacities)) [ inl some ↦ inr (λ none. omega arith) | inr none ↦ inl (omega arith) ])
    (inl (none_at_first m 0)))))

-- ---- capacities

capacity_step : (m : MachineData) (t : ℕ) → t < length m.capacities → Step m 4 t
capacity_step m t here before =
    let c = get_or m.capacities t 0 in
    let is : slice_get m.capacities t ≡ Some c = slice_get-get_or m.capacities t 0 here in
    let wrong : ((c < 2) ⊎ (32 < c)) → (fault : MachineFault) × IsFirstWithin m at_capacities at_segments fault =
    λ which. (Capacity (record { 0 = t }), record { within = (λ e. omega arith, inl (omega arith)); applies = (c, is, which); none_earlier = before }) in
    elim (cases_lt c 2) [
      | inl low ↦ inr (wrong (inl low))
      | inr enough ↦ elim (cases_lt 32 c) [
        | inl high ↦ inr (wrong (inr high))
        | inr few ↦ inl (capacity_passed m m.capacities t refl enough few before)
      ]
    ]

capacities_searched : (m : MachineData) → Found m 4 → Found m 5
capacities_searched m = searched m 4 (length m.capacities) (capacity_step m)
    (λ t q past (c, is, wrong). let within : t < length m.capacities = slice_get_within m.capacities t c is in omega arith)

-- ---- segments

-- whether an earlier segment has an end of a trap in common
taken_or_not : (m : MachineData) (s : ℕ) (ends : Place × Place) → Decided (HasTakenEnd m s ends)
taken_or_not m s ends =
    let meets : Place × Place → Type 0 = λ others. TakesEnd others ends.0 ⊎ TakesEnd others ends.1 in
    let each : (others : Place × Place) → Decided (meets others) = λ others. decided_one (TakesEnd others ends.0) (TakesEnd others ends.1) (decided_takes others ends.0) (decided_takes others ends.1) in
    elim (decided_below (λ k. (others : Place × Place) × (slice_get m.segments k ≡ Some others) × meets others) (λ k. decided_at m.segments k meets each) s) [
      | inl (earlier, before, (others, is, found)) ↦ inl (earlier, others, before, is, found)
      | inr free ↦ inr (λ (earlier, others, before, is, found). free (earlier, before, (others, is, found)))
    ]

-- what the three questions find out about one segment
ends_asked : (m : MachineData) (s : ℕ) (ends : Place × Place) → slice_get m.segments s ≡ Some ends
    → NoneWithin m (turn 5 s 0) (turn 5 (s + 1) 0) ⊎ ((fault : MachineFault) × IsFirstWithin m (turn 5 s 0) (turn 5 (s + 1) 0) fault)
ends_asked m s ends is = elim (decided_both (IsThere m ends.0) (IsThere m ends.1) (is_there m ends.0) (is_there m ends.1)) [
  | inr missing ↦ inr (BadEnd (record { 0 = s }), bad_end m s ends is missing)
  | inl there ↦ elim (decided_same (site ends.0) (site ends.1)) [
    | inl same ↦ inr (SelfJoined (record { 0 = s }), self_joined m s ends is there same)
    | inr apart ↦ elim (taken_or_not m s ends) [
      | inl taken ↦ inr (EndTaken (record { 0 = s }), end_taken m s ends is there apart taken)
      | inr free ↦ inl (ends_passed m s ends is there apart free)
    ]
  ]
]

segment_step : (m : MachineData) (s : ℕ) → s < length m.segments → Step m 5 s
segment_step m s here before =
    let past : Place × Place = (TrapEnd (record { 0 = 0 }) Left, TrapEnd (record { 0 = 0 }) Left) in
    elim (ends_asked m s (get_or m.segments s past) (slice_get-get_or m.segments s past here)) [
      | inl none ↦ inl (none_joined m at_segments (turn 5 s 0) (turn 5 (s + 1) 0) before none)
      | inr (fault, first) ↦ inr (fault, first_widened m at_segments (turn 5 s 0) (turn 5 (s + 1) 0) at_degrees fault (λ e. omega arith) (λ e. omega arith) before first)
    ]

-- no question finds a fault of a segment past the last
past_segments : (m : MachineData) (s question : ℕ) → length m.segments ≤ s → Applies m (of_segment question s) → ⊥
past_segments m s zero past (ends, is, wrong) = let within : s < length m.segments = slice_get_within m.segments s ends is in omega arith
past_segments m s (suc zero) past (ends, is, wrong) = let within : s < length m.segments = slice_get_within m.segments s ends is in omega arith
past_segments m s (suc (suc question)) past (ends, is, wrong) = let within : s < length m.segments = slice_get_within m.segments s ends is in omega arith

segments_searched : (m : MachineData) → Found m 5 → Found m 6
segments_searched m = searched m 5 (length m.segments) (segment_step m) (past_segments m)

-- ---- junctions

degree_step : (m : MachineData) (j : ℕ) → j < m.junctions → Step m 6 j
degree_step m j here before =
    let wrong : ((degree_of m j < 2) ⊎ (4 < degree_of m j)) → (fault : MachineFault) × IsFirstWithin m at_degrees at_far_traps fault =
    λ which. (JunctionDegree (record { 0 = j }), record { within = (λ e. omega arith, inl (omega arith)); applies = (here, which); none_earlier = before }) in
    elim (cases_lt (degree_of m j) 2) [
      | inl low ↦ inr (wrong (inl low))
      | inr enough ↦ elim (cases_lt 4 (degree_of m j)) [
        | inl high ↦ inr (wrong (inr high))
        | inr few ↦ inl (degree_passed m j (degree_of m j) refl enough few before)
      ]
    ]

degrees_searched : (m : MachineData) → Found m 6 → Found m 7
degrees_searched m = searched m 6 m.junctions (degree_step m) (λ j q past applies. omega (arith, applies.0))

-- ---- what is out of reach

far_trap_step : (m : MachineData) (t : ℕ) → t < length m.capacities → Step m 7 t
far_trap_step m t here before = elim (reached_or_not m (res.Trap (record { 0 = t }))) [
  | inl reached ↦ inl (trap_passed m t reached before)
  | inr far ↦ inr (NotConnected (res.Trap (record { 0 = t })), trap_far m t here far before)
]

past_traps : (m : MachineData) (t question : ℕ) → length m.capacities ≤ t → Applies m (of_trap question t) → ⊥
past_traps m t zero past applies = omega (arith, applies.0)
past_traps m t (suc question) past applies = applies

far_traps_searched : (m : MachineData) → Found m 7 → Found m 8
far_traps_searched m = searched m 7 (length m.capacities) (far_trap_step m) (past_traps m)

far_junction_step : (m : MachineData) (j : ℕ) → j < m.junctions → Step m 8 j
far_junction_step m j here before = elim (reached_or_not m (res.Junc (record { 0 = j }))) [
  | inl reached ↦ inl (junction_passed m j reached before)
  | inr far ↦ inr (NotConnected (res.Junc (record { 0 = j })), junction_far m j here far before)
]

past_junctions : (m : MachineData) (j question : ℕ) → m.junctions ≤ j → Applies m (of_junction question j) → ⊥
past_junctions m j zero past applies = omega (arith, applies.0)
past_junctions m j (suc question) past applies = applies

far_junctions_searched : (m : MachineData) → Found m 8 → Found m 9
far_junctions_searched m = searched m 8 m.junctions (far_junction_step m) (past_junctions m)

-- ---- times

time_step : (m : MachineData) (field : ℕ) → field < length (times_of m.times) → Step m 9 field
time_step m field here before = elim (cases_lt 1000000 (get_or (times_of m.times) field 0)) [
  | inl long ↦ inr (TableRange field, time_found m (times_of m.times) field refl here long before)
  | inr short ↦ inl (time_passed m (times_of m.times) field refl short before)
]

times_searched : (m : MachineData) → Found m 9 → Found m 10
times_searched m = searched m 9 (length (times_of m.times)) (time_step m)
    (λ field q past (t, is, long). let within : field < length (times_of m.times) = slice_get_within (times_of m.times) field t is in omega arith)

-- ---- all checks

all_searched : (m : MachineData) → Found m 10
all_searched m = times_searched m (far_junctions_searched m (far_traps_searched m (degrees_searched m (segments_searched m (capacities_searched m (counts_searched m))))))

pub every_parts : (m : MachineData) → IsValid m ⊎ ((fault : MachineFault) × IsFirst m fault)
every_parts m = elim (all_searched m) [ inl none ↦ inl (valid_from_none m none) | inr found ↦ inr found ]

pub valid_without_fault : (m : MachineData) → ((fault : MachineFault) → Applies m fault → ⊥) → IsValid m
valid_without_fault m none = elim (every_parts m) [ inl valid ↦ valid | inr found ↦ absurd (none found.0 found.1.applies) ]
