-- Which segments have an end at a place, and that only one has where the machine lets one.
use Rattle.std.proofs.Common.{◌≡◌, ℕ, ◌<◌, ◌≤◌, Bool, true, false, cond, ◌||◌, ◌⊎◌, inl, inr, List, Some, None, length, nat_lt, get_or, position, refl, sym, subst, arith, slice_get}
use Rattle.std.specs.List.{position_or_len}
use Rattle.std.proofs.lemmas.Bool.{cases_lt, or_cases, or_right}
use Rattle.std.proofs.lemmas.Bool.Decides.{nat_tests}
use Rattle.std.proofs.lemmas.List.Quantifiers.{position-Some}
use Rattle.std.proofs.lemmas.List.Sums.{fails_before_first}
use Rattle.std.proofs.lemmas.Option.{slice_get-get_or, slice_get_within, get_or_from_slice_get}
use Rattle.qccd_machine.specs.declared.place.Place.{Place}
use Rattle.qccd_machine.specs.Machine.{MachineData, same_place, ends_at}
use Rattle.qccd_machine.specs.Joined.{IsJoined}
use Rattle.qccd_machine.proofs.Counts.{HasOne, count_at_least_two}
use Rattle.qccd_machine.proofs.SamePlace.{same_place-true, same_place-refl}

-- whether the segment has an end at the place
abbrev pub touches : Place → Place × Place → Bool
touches p ends = same_place p ends.0 || same_place p ends.1

pub touches-from : (p : Place) (ends : Place × Place) → (ends.0 ≡ p) ⊎ (ends.1 ≡ p) → touches p ends ≡ true
touches-from p (a, b) (inl is) = subst (λ (q : Place). (same_place p q || same_place p b) ≡ true) (sym is) (rw (same_place-refl p) refl)
touches-from p (a, b) (inr is) = subst (λ (q : Place). (same_place p a || same_place p q) ≡ true) (sym is) (or_right (same_place p a) (same_place p p) (same_place-refl p))

pub touches-to : (p : Place) (ends : Place × Place) → touches p ends ≡ true → (ends.0 ≡ p) ⊎ (ends.1 ≡ p)
touches-to p (a, b) h =
    elim (or_cases (same_place p a) (same_place p b) h) [ inl is ↦ inl (sym (same_place-true p a is)) | inr is ↦ inr (sym (same_place-true p b is)) ]

-- where one end at most is at the place, one segment at most has it
has : (p : Place) (ends : Place × Place) → (ends.0 ≡ p) ⊎ (ends.1 ≡ p) → HasOne (same_place p) ends
has p ends (inl is) = inl (subst (λ (q : Place). same_place p q ≡ true) (sym is) (same_place-refl p))
has p ends (inr is) = inr (subst (λ (q : Place). same_place p q ≡ true) (sym is) (same_place-refl p))

not_earlier : (m : MachineData) (p : Place) (i k : ℕ) → ends_at m p ≤ 1 → IsJoined m p i → IsJoined m p k → i < k → ⊥
not_earlier m p i k few first second earlier =
    let two : 2 ≤ ends_at m p =
    count_at_least_two (same_place p) m.segments i k first.ends second.ends earlier first.there second.there
    (has p first.ends first.at_place) (has p second.ends second.at_place) in
    omega arith

pub joined-unique : (m : MachineData) (p : Place) (i k : ℕ) → ends_at m p ≤ 1 → IsJoined m p i → IsJoined m p k → i ≡ k
joined-unique m p i k few first second =
    elim (cases_lt i k) [
      | inl less ↦ absurd (not_earlier m p i k few first second less)
      | inr more ↦ elim (cases_lt k i) [ inl less ↦ absurd (not_earlier m p k i few second first less) | inr same ↦ omega arith ]
    ]

-- the first segment that touches the place is joined to it
pub joined_first : (m : MachineData) (p : Place) (s : ℕ) → position (touches p) m.segments ≡ Some s → IsJoined m p s
joined_first m p s found =
    let default : Place × Place = (p, p) in
    let first = position-Some (touches p) m.segments s default found in
    record {
      ends = get_or m.segments s default;
      there = slice_get-get_or m.segments s default first.0;
      at_place = touches-to p (get_or m.segments s default) first.1;
    }

-- where none touches it, none is joined
unfound : {X : Type 0} (test : Bool) (x : X) → cond test (Some x) None ≡ None → test ≡ false
unfound true x h = cc
unfound false x h = refl

none_touched : (p : Place) (segments : List (Place × Place)) (k : ℕ) (ends : Place × Place) → position (touches p) segments ≡ None
    → slice_get segments k ≡ Some ends → touches p ends ≡ false
none_touched p segments k ends none there =
    let first : ℕ = position_or_len (touches p) segments in
    let past : nat_lt first (length segments) ≡ false = unfound (nat_lt first (length segments)) first none in
    let within : k < length segments = slice_get_within segments k ends there in
    let before : k < first = grind (arith, nat_tests) in
    subst (λ (e : Place × Place). touches p e ≡ false) (get_or_from_slice_get segments k ends ends there) (fails_before_first (touches p) segments k ends before)

pub joined_none : (m : MachineData) (p : Place) → position (touches p) m.segments ≡ None → (s : ℕ) → IsJoined m p s → ⊥
joined_none m p none s joined =
    let not_touched = none_touched p m.segments s joined.ends none joined.there in
    let touched = touches-from p joined.ends joined.at_place in cc
