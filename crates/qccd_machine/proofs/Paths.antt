-- Paths that grow by a segment, and marks along them.
use Rattle.std.proofs.Common.{◌≡◌, ℕ, zero, suc, ◌+◌, ◌⊎◌, inl, inr, true, false, List, [], ◌∷◌, ◌++◌, length, get_or, replicate, Some, refl, sym, ◌∙◌, ap, subst, arith}
use Rattle.std.specs.Prelude.{slice_get}
use Rattle.std.proofs.lemmas.Bool.{false≢true, cases_lt}
use Rattle.std.proofs.lemmas.List.{get_or-replicate, get_or_past, length-replicate}
use Rattle.std.proofs.lemmas.Option.{same_Some, slice_get_within}
use Rattle.qccd_base.specs.declared.names.Res.{Res}
use Rattle.qccd_base.specs.declared.names.Res.TheVariants.{Trap, Seg, Junc, Bit}
use Rattle.qccd_machine.specs.declared.place.Place.{Place}
use Rattle.qccd_machine.specs.declared.reach.Reached.{Reached}
use Rattle.qccd_machine.specs.Machine.{MachineData, Joins, Leads, IsReached, first_trap, site}
use Rattle.qccd_machine.specs.Reach.{AllReached, IsClosedBelow, is_marked}

-- a path with one more segment at its end
extended : (m : MachineData) (a b c : Res) (path : List ℕ) (s : ℕ) → Leads m a path b → Joins m s b c → Leads m a (path ++ s ∷ []) c
extended m a b c [] s leads joins = (c, subst (λ (r : Res). Joins m s r c) (sym leads) joins, refl)
extended m a b c (t ∷ path) s (mid, first, rest) joins = (mid, first, extended m mid b c path s rest joins)

reached_next : (m : MachineData) (a b : Res) (s : ℕ) → Joins m s a b → IsReached m a → IsReached m b
reached_next m a b s joins (path, leads) = (path ++ s ∷ [], extended m first_trap a b path s leads joins)

-- from a segment's end A to its end B, and back
pub reached_along : (m : MachineData) (s : ℕ) (ends : Place × Place) → slice_get m.segments s ≡ Some ends → IsReached m (site ends.0) → IsReached m (site ends.1)
reached_along m s ends is = reached_next m (site ends.0) (site ends.1) s (ends, is, inl (refl, refl))

pub reached_back : (m : MachineData) (s : ℕ) (ends : Place × Place) → slice_get m.segments s ≡ Some ends → IsReached m (site ends.1) → IsReached m (site ends.0)
reached_back m s ends is = reached_next m (site ends.1) (site ends.0) s (ends, is, inr (refl, refl))

-- a mark set at one end of a segment whose other end was marked
pub reached_second : (m : MachineData) (s : ℕ) (ends : Place × Place) (old new : Reached) → slice_get m.segments s ≡ Some ends
    → is_marked old (site ends.0) ≡ true → ((r : Res) → is_marked new r ≡ true → (is_marked old r ≡ true) ⊎ (r ≡ site ends.1))
    → AllReached m old → AllReached m new
reached_second m s ends old new is marked only all r h =
    elim (only r h) [
      | inl before ↦ all r before
      | inr here ↦ subst (IsReached m) (sym here) (reached_along m s ends is (all (site ends.0) marked))
    ]

pub reached_first : (m : MachineData) (s : ℕ) (ends : Place × Place) (old new : Reached) → slice_get m.segments s ≡ Some ends
    → is_marked old (site ends.1) ≡ true → ((r : Res) → is_marked new r ≡ true → (is_marked old r ≡ true) ⊎ (r ≡ site ends.0))
    → AllReached m old → AllReached m new
reached_first m s ends old new is marked only all r h =
    elim (only r h) [
      | inl before ↦ all r before
      | inr here ↦ subst (IsReached m) (sym here) (reached_back m s ends is (all (site ends.1) marked))
    ]

-- marks that are alike at both ends of each segment go on along a path
along : (m : MachineData) (marks : Reached) (a b : Res) (path : List ℕ) → IsClosedBelow m.segments (length m.segments) marks
    → Leads m a path b → is_marked marks a ≡ true → is_marked marks b ≡ true
along m marks a b [] closed leads h = subst (λ (r : Res). is_marked marks r ≡ true) leads h
along m marks a b (s ∷ path) closed (mid, (ends, is, sites), rest) h =
    let same : is_marked marks (site ends.0) ≡ is_marked marks (site ends.1) = closed s ends (slice_get_within m.segments s ends is) is in
    let next : is_marked marks mid ≡ true = elim sites [
      | inl forth ↦ sym (ap (is_marked marks) forth.1) ∙ sym same ∙ ap (is_marked marks) forth.0 ∙ h
      | inr back ↦ sym (ap (is_marked marks) back.0) ∙ same ∙ ap (is_marked marks) back.1 ∙ h
    ] in
    along m marks mid b path closed rest next

pub all_marked : (m : MachineData) (marks : Reached) (r : Res) → IsClosedBelow m.segments (length m.segments) marks → is_marked marks first_trap ≡ true → IsReached m r → is_marked marks r ≡ true
all_marked m marks r closed first (path, leads) = along m marks first_trap r path closed leads first

-- marks at the start

blank : (n i : ℕ) → get_or (replicate n false) i false ≡ false
blank n i = elim (cases_lt i n) [ inl within ↦ get_or-replicate n i false false within | inr past ↦ get_or_past (replicate n false) i false (omega (arith, length-replicate n false)) ]

first_alone : (n i : ℕ) → get_or (true ∷ replicate n false) i false ≡ true → i ≡ 0
first_alone n zero h = refl
first_alone n (suc i) h = absurd (false≢true (sym (blank n i) ∙ h))

abbrev pub at_start : Reached
at_start = record { traps = true ∷ replicate 31 false; junctions = replicate 64 false }

pub only_first : (r : Res) → is_marked at_start r ≡ true → r ≡ first_trap
only_first (Trap t) h = ap (λ (i : ℕ). Trap (record { 0 = i })) (first_alone 31 t.0 h)
only_first (Seg s) h = absurd (false≢true h)
only_first (Junc j) h = absurd (false≢true (sym (blank 64 j.0) ∙ h))
only_first (Bit b) h = absurd (false≢true h)

-- a segment more that has its marks alike
pub closed_more : (segments : List (Place × Place)) (count : ℕ) (ends : Place × Place) (old new : Reached) → slice_get segments count ≡ Some ends
    → new ≡ old → is_marked new (site ends.0) ≡ is_marked new (site ends.1) → IsClosedBelow segments count old → IsClosedBelow segments (count + 1) new
closed_more segments count ends old new is same both closed s others short found =
    elim (cases_lt s count) [
      | inl before ↦ subst (λ (marks : Reached). is_marked marks (site others.0) ≡ is_marked marks (site others.1)) (sym same) (closed s others before found)
      | inr last ↦
          let here : count ≡ s = omega arith in
          let e : ends ≡ others = same_Some ends others (sym is ∙ ap (slice_get segments) here ∙ found) in
          subst (λ (x : Place × Place). is_marked new (site x.0) ≡ is_marked new (site x.1)) e both
    ]
