-- The machines that are known by name are valid.
use Rattle.std.proofs.Common.{◌≡◌, ◌≢◌, ◌<◌, ◌≤◌, ℕ, zero, suc, ◌+◌, [], length, Some, slice_get, All, inl, inr, refl, sym, ap, subst, arith}
use Rattle.std.specs.List.{AllByRecursion}
use Rattle.std.proofs.lemmas.Bool.{cases_lt}
use Rattle.std.proofs.lemmas.List.Elements.{All-from_recursion, All-replicate}
use Rattle.std.proofs.lemmas.Option.{slice_get_within, get_or_from_slice_get}
use Rattle.qccd_base.specs.Names.{trap, junction}
use Rattle.qccd_base.specs.declared.names.TrapId.{TrapId}
use Rattle.qccd_base.specs.declared.names.End.{End}
use Rattle.qccd_base.specs.declared.names.End.TheVariants.{Left, Right}
use Rattle.qccd_base.specs.declared.names.Res.{Res}
use Rattle.qccd_base.specs.declared.names.Res.TheVariants as res
use Rattle.qccd_machine.specs.declared.place.Place.{Place}
use Rattle.qccd_machine.specs.declared.place.Place.TheVariants.{TrapEnd}
use Rattle.qccd_machine.specs.declared.place.Preset.{Preset}
use Rattle.qccd_machine.specs.declared.place.Preset.TheVariants.{L6, G2x3, Single}
use Rattle.qccd_machine.specs.Machine.{MachineData, IsValid, IsThere, site, ends_at, degree_of, same_place, IsReached}
use Rattle.qccd_machine.specs.Preset.{at_left, at_right, at_junction, line_of_six, two_rows, preset_of}
use Rattle.qccd_machine.proofs.SamePlace.{same_place-true}
use Rattle.qccd_machine.proofs.Counts.{count_none}
use Rattle.qccd_machine.proofs.Paths.{reached_along, reached_back}
use Rattle.qccd_machine.proofs.SingleTrap.{valid_single, usual_within}

-- a fact of the n numbers from a on, one after another
abbrev Each : (ℕ → Type 0) → ℕ → ℕ → Type 0
Each P a zero = Unit {0}
Each P a (suc n) = P a × Each P (suc a) n

each_from : (P : ℕ → Type 0) (a n i : ℕ) → Each P a n → a ≤ i → i < a + n → P i
each_from P a zero i all low high = absurd (omega arith)
each_from P a (suc n) i all low high =
    elim (cases_lt a i) [
      | inl less ↦ each_from P (suc a) n i all.1 (omega arith) (omega arith)
      | inr least ↦ let here : a ≡ i = omega arith in subst P here all.0
    ]

-- a fact of each number below n
each : (P : ℕ → Type 0) (n : ℕ) → Each P 0 n → (i : ℕ) → i < n → P i
each P n all i high = each_from P 0 n i all (omega arith) (omega arith)

-- what is asked of a segment
abbrev BothThere : MachineData → Place × Place → Type 0
BothThere m s = IsThere m s.0 × IsThere m s.1

abbrev TwoSites : Place × Place → Type 0
TwoSites s = site s.0 ≢ site s.1

-- and of a trap
abbrev IsFree : MachineData → ℕ → Type 0
IsFree m t = (ends_at m (at_left t) ≤ 1) × (ends_at m (at_right t) ≤ 1)

-- an end of a trap that is not there has no segment
none_at_missing : (m : MachineData) (p : Place) → (IsThere m p → ⊥) → All (BothThere m) m.segments → ends_at m p ≡ 0
none_at_missing m p missing all =
    count_none (same_place p) m.segments (λ k ends is has. elim has [
      | inl first ↦ missing (subst (IsThere m) (sym (same_place-true p ends.0 first)) (there k ends is).0)
      | inr second ↦ missing (subst (IsThere m) (sym (same_place-true p ends.1 second)) (there k ends is).1)
    ])
  where
    there : (k : ℕ) (ends : Place × Place) → slice_get m.segments k ≡ Some ends → BothThere m ends
    there k ends is = subst (BothThere m) (get_or_from_slice_get m.segments k ends ends is) (all k ends (slice_get_within m.segments k ends is))

-- so it suffices to look at the traps that are there
ends_free-from : (m : MachineData) → All (BothThere m) m.segments
    → Each (IsFree m) 0 (length m.capacities)
    → (t : TrapId) (end : End) → ends_at m (TrapEnd t end) ≤ 1
ends_free-from m all few t end =
    elim (cases_lt t.0 (length m.capacities)) [
      | inl there ↦ by_end end (each (IsFree m) (length m.capacities) few t.0 there)
      | inr past ↦ let none = none_at_missing m (TrapEnd t end) (λ there. omega arith) all in omega (arith, none)
    ]
  where
    by_end : (e : End) → IsFree m t.0 → ends_at m (TrapEnd t e) ≤ 1
    by_end Left both = both.0
    by_end Right both = both.1

-- two sites of other numbers, or of other kinds, are two
abbrev number : Res → ℕ
number (res.Trap t) = t.0
number (res.Seg s) = 0
number (res.Junc j) = 64 + j.0
number (res.Bit b) = 0

two : (a b : Res) → number a ≢ number b → a ≢ b
two a b other = λ same. other (ap number same)

abbrev at_trap : ℕ → Res
at_trap t = res.Trap (trap t)

abbrev at_crossing : ℕ → Res
at_crossing j = res.Junc (junction j)

-- the line: what is there, and the way to each trap
line_there : (c : ℕ) → AllByRecursion (BothThere (preset_of L6 c)) line_of_six
line_there c =
    ((omega arith, omega arith), ((omega arith, omega arith), ((omega arith, omega arith), ((omega arith, omega arith), ((omega arith, omega arith), tt)))))

line_two_sites : AllByRecursion TwoSites line_of_six
line_two_sites =
    (two _ _ (omega arith), (two _ _ (omega arith), (two _ _ (omega arith), (two _ _ (omega arith), (two _ _ (omega arith), tt)))))

line_free : (c : ℕ) → Each (IsFree (preset_of L6 c)) 0 6
line_free c =
    ((omega arith, omega arith), ((omega arith, omega arith), ((omega arith, omega arith), ((omega arith, omega arith), ((omega arith, omega arith), ((omega arith, omega arith), tt))))))

line_reached : (c : ℕ) → Each (λ t. IsReached (preset_of L6 c) (at_trap t)) 0 6
line_reached c =
    let m : MachineData = preset_of L6 c in
    let t0 : IsReached m (at_trap 0) = ([], refl) in
    let t1 : IsReached m (at_trap 1) = reached_along m 0 (at_right 0, at_left 1) refl t0 in
    let t2 : IsReached m (at_trap 2) = reached_along m 1 (at_right 1, at_left 2) refl t1 in
    let t3 : IsReached m (at_trap 3) = reached_along m 2 (at_right 2, at_left 3) refl t2 in
    let t4 : IsReached m (at_trap 4) = reached_along m 3 (at_right 3, at_left 4) refl t3 in
    let t5 : IsReached m (at_trap 5) = reached_along m 4 (at_right 4, at_left 5) refl t4 in
    (t0, (t1, (t2, (t3, (t4, (t5, tt))))))

valid_line : (c : ℕ) → 2 ≤ c → c ≤ 32 → IsValid (preset_of L6 c)
valid_line c low high =
    let m : MachineData = preset_of L6 c in
    let there : All (BothThere m) line_of_six = All-from_recursion (BothThere m) line_of_six (line_there c) in
    record {
      some_trap = omega arith;
      few_traps = omega arith;
      few_segments = omega arith;
      few_junctions = omega arith;
      capacities = All-replicate (λ (n : ℕ). (2 ≤ n) × (n ≤ 32)) 6 c (low, high);
      ends_there = there;
      two_sites = All-from_recursion TwoSites line_of_six line_two_sites;
      ends_free = ends_free-from m there (line_free c);
      degrees = λ j h. absurd (omega arith);
      traps_reached = λ t h. each (λ n. IsReached m (at_trap n)) 6 (line_reached c) t.0 h;
      junctions_reached = λ j h. absurd (omega arith);
      times = usual_within;
    }

-- the two rows: what is there, and the way to each trap and junction
rows_there : (c : ℕ) → AllByRecursion (BothThere (preset_of G2x3 c)) two_rows
rows_there c = (
  (omega arith, omega arith),
  (
    (omega arith, omega arith),
    (
      (omega arith, omega arith),
      (
        (omega arith, omega arith),
        (
          (omega arith, omega arith),
          ((omega arith, omega arith), ((omega arith, omega arith), ((omega arith, omega arith), ((omega arith, omega arith), ((omega arith, omega arith), tt))))),
        ),
      ),
    ),
  ),
)

rows_two_sites : AllByRecursion TwoSites two_rows
rows_two_sites = (
  two _ _ (omega arith),
  (
    two _ _ (omega arith),
    (
      two _ _ (omega arith),
      (
        two _ _ (omega arith),
        (
          two _ _ (omega arith),
          (two _ _ (omega arith), (two _ _ (omega arith), (two _ _ (omega arith), (two _ _ (omega arith), (two _ _ (omega arith), tt))))),
        ),
      ),
    ),
  ),
)

rows_free : (c : ℕ) → Each (IsFree (preset_of G2x3 c)) 0 6
rows_free c =
    ((omega arith, omega arith), ((omega arith, omega arith), ((omega arith, omega arith), ((omega arith, omega arith), ((omega arith, omega arith), ((omega arith, omega arith), tt))))))

rows_degrees : (c : ℕ) → Each (λ j. (2 ≤ degree_of (preset_of G2x3 c) j) × (degree_of (preset_of G2x3 c) j ≤ 4)) 0 4
rows_degrees c =
    ((omega arith, omega arith), ((omega arith, omega arith), ((omega arith, omega arith), ((omega arith, omega arith), tt))))

abbrev ReachesAll : MachineData → Type 0
ReachesAll m = Each (λ t. IsReached m (at_trap t)) 0 6 × Each (λ j. IsReached m (at_crossing j)) 0 4

rows_reached : (c : ℕ) → ReachesAll (preset_of G2x3 c)
rows_reached c =
    let m : MachineData = preset_of G2x3 c in
    let t0 : IsReached m (at_trap 0) = ([], refl) in
    let j0 : IsReached m (at_crossing 0) = reached_along m 0 (at_right 0, at_junction 0) refl t0 in
    let t1 : IsReached m (at_trap 1) = reached_along m 1 (at_junction 0, at_left 1) refl j0 in
    let j1 : IsReached m (at_crossing 1) = reached_along m 2 (at_right 1, at_junction 1) refl t1 in
    let t2 : IsReached m (at_trap 2) = reached_along m 3 (at_junction 1, at_left 2) refl j1 in
    let j2 : IsReached m (at_crossing 2) = reached_along m 8 (at_junction 0, at_junction 2) refl j0 in
    let t3 : IsReached m (at_trap 3) = reached_back m 4 (at_right 3, at_junction 2) refl j2 in
    let t4 : IsReached m (at_trap 4) = reached_along m 5 (at_junction 2, at_left 4) refl j2 in
    let j3 : IsReached m (at_crossing 3) = reached_along m 9 (at_junction 1, at_junction 3) refl j1 in
    let t5 : IsReached m (at_trap 5) = reached_along m 7 (at_junction 3, at_left 5) refl j3 in
    ((t0, (t1, (t2, (t3, (t4, (t5, tt)))))), (j0, (j1, (j2, (j3, tt)))))

valid_rows : (c : ℕ) → 2 ≤ c → c ≤ 32 → IsValid (preset_of G2x3 c)
valid_rows c low high =
    let m : MachineData = preset_of G2x3 c in
    let there : All (BothThere m) two_rows = All-from_recursion (BothThere m) two_rows (rows_there c) in
    record {
      some_trap = omega arith;
      few_traps = omega arith;
      few_segments = omega arith;
      few_junctions = omega arith;
      capacities = All-replicate (λ (n : ℕ). (2 ≤ n) × (n ≤ 32)) 6 c (low, high);
      ends_there = there;
      two_sites = All-from_recursion TwoSites two_rows rows_two_sites;
      ends_free = ends_free-from m there (rows_free c);
      degrees = λ j h. each (λ n. (2 ≤ degree_of m n) × (degree_of m n ≤ 4)) 4 (rows_degrees c) j h;
      traps_reached = λ t h. each (λ n. IsReached m (at_trap n)) 6 (rows_reached c).0 t.0 h;
      junctions_reached = λ j h. each (λ n. IsReached m (at_crossing n)) 4 (rows_reached c).1 j.0 h;
      times = usual_within;
    }

-- each of them is valid
pub valid_preset : (which : Preset) (capacity : ℕ) → 2 ≤ capacity → capacity ≤ 32 → IsValid (preset_of which capacity)
valid_preset L6 capacity low high = valid_line capacity low high
valid_preset G2x3 capacity low high = valid_rows capacity low high
valid_preset Single capacity low high = valid_single capacity low high
