-- The three questions about a segment.
use Rattle.std.proofs.Common.{◌≡◌, ℕ, zero, suc, ◌+◌, ◌<◌, ◌⊎◌, inl, inr, List, length, get_or, take, Some, refl, sym, ◌∙◌, subst, arith}
use Rattle.std.specs.Prelude.{slice_get}
use Rattle.std.specs.List.{Any}
use Rattle.std.proofs.lemmas.List.{get_or-take, length-take}
use Rattle.std.proofs.lemmas.Option.{same_Some, slice_get_within, slice_get_read, get_or_from_slice_get}
use Rattle.qccd_machine.specs.declared.place.Place.{Place}
use Rattle.qccd_machine.specs.declared.place.Place.TheVariants.{TrapEnd, Junction}
use Rattle.qccd_machine.specs.declared.fault.MachineFault.TheVariants.{BadEnd, SelfJoined, EndTaken}
use Rattle.qccd_machine.specs.Machine.{MachineData, IsThere, site}
use Rattle.qccd_machine.specs.Fault.{Applies, turn, TakesEnd, HasTakenEnd}
use Rattle.qccd_machine.specs.Search.{NoneWithin, IsFirstWithin}
use Rattle.qccd_machine.proofs.Decided.{Decided, decided_less}
use Rattle.qccd_machine.proofs.Turns.{none_of_part, none_of_questions, of_segment}

abbrev pub Meets : Place × Place → Place × Place → Type 0
Meets ends others = TakesEnd others ends.0 ⊎ TakesEnd others ends.1

taken : (m : MachineData) (s : ℕ) (ends : Place × Place) → Any (Meets ends) (take s m.segments) → HasTakenEnd m s ends
taken m s ends (k, others, short, is, meets) =
    let in_front : k < s = omega (arith, length-take s m.segments) in
    let within : k < length m.segments = omega (arith, length-take s m.segments) in
    let there : others ≡ get_or m.segments k others = sym is ∙ get_or-take s m.segments k others in_front in
    (k, others, in_front, slice_get_read m.segments (length m.segments) k others refl within there, meets)

some : (m : MachineData) (s : ℕ) (ends : Place × Place) → HasTakenEnd m s ends → Any (Meets ends) (take s m.segments)
some m s ends (k, others, in_front, is, meets) =
    let within : k < length m.segments = slice_get_within m.segments k others is in
    (k, others, omega (arith, length-take s m.segments), get_or-take s m.segments k others in_front ∙ get_or_from_slice_get m.segments k others others is, meets)

-- some segment before has a trap's end in common with these ends: as a search says it, and by its place
pub taken_from_any : (m : MachineData) (xs : List (Place × Place)) (s : ℕ) (ends : Place × Place) → xs ≡ m.segments → Any (Meets ends) (take s xs) → HasTakenEnd m s ends
taken_from_any m xs s ends xs_are found = taken m s ends (subst (λ (ys : List (Place × Place)). Any (Meets ends) (take s ys)) xs_are found)

pub any_from_taken : (m : MachineData) (xs : List (Place × Place)) (s : ℕ) (ends : Place × Place) → xs ≡ m.segments → HasTakenEnd m s ends → Any (Meets ends) (take s xs)
any_from_taken m xs s ends xs_are found = subst (λ (ys : List (Place × Place)). Any (Meets ends) (take s ys)) (sym xs_are) (some m s ends found)

-- of two readings of one place
same_ends : (m : MachineData) (s : ℕ) (ends others : Place × Place) → slice_get m.segments s ≡ Some ends → slice_get m.segments s ≡ Some others → others ≡ ends
same_ends m s ends others e f = same_Some others ends (sym f ∙ e)

pub is_there : (m : MachineData) (place : Place) → Decided (IsThere m place)
is_there m (TrapEnd t end) = decided_less t.0 (length m.capacities)
is_there m (Junction j) = decided_less j.0 m.junctions

-- the segment passes a question
not_bad : (m : MachineData) (s : ℕ) (ends : Place × Place) → slice_get m.segments s ≡ Some ends → IsThere m ends.0 × IsThere m ends.1 → Applies m (BadEnd (record { 0 = s })) → ⊥
not_bad m s ends is (a, b) (others, found, missing) =
    let e : others ≡ ends = same_ends m s ends others is found in
    elim missing [ inl h ↦ h (subst (λ (x : Place × Place). IsThere m x.0) (sym e) a) | inr h ↦ h (subst (λ (x : Place × Place). IsThere m x.1) (sym e) b) ]

not_joined : (m : MachineData) (s : ℕ) (ends : Place × Place) → slice_get m.segments s ≡ Some ends → (site ends.0 ≡ site ends.1 → ⊥) → Applies m (SelfJoined (record { 0 = s })) → ⊥
not_joined m s ends is apart (others, found, same) =
    apart (subst (λ (x : Place × Place). site x.0 ≡ site x.1) (same_ends m s ends others is found) same)

not_taken : (m : MachineData) (s : ℕ) (ends : Place × Place) → slice_get m.segments s ≡ Some ends → (HasTakenEnd m s ends → ⊥) → Applies m (EndTaken (record { 0 = s })) → ⊥
not_taken m s ends is free (others, found, taken) = free (subst (HasTakenEnd m s) (same_ends m s ends others is found) taken)

-- the segment fails a question and passes those before it
pub bad_end : (m : MachineData) (s : ℕ) (ends : Place × Place) → slice_get m.segments s ≡ Some ends → (IsThere m ends.0 × IsThere m ends.1 → ⊥)
    → IsFirstWithin m (turn 5 s 0) (turn 5 (s + 1) 0) (BadEnd (record { 0 = s }))
bad_end m s ends is missing = record {
  within = (λ e. omega arith, inr (refl, inl (omega arith)));
  applies = (ends, is, elim (is_there m ends.0) [ inl a ↦ inr (λ b. missing (a, b)) | inr a ↦ inl a ]);
  none_earlier = none_of_questions m 5 s 0 (λ q early. absurd (omega arith));
}

pub self_joined : (m : MachineData) (s : ℕ) (ends : Place × Place) → slice_get m.segments s ≡ Some ends → IsThere m ends.0 × IsThere m ends.1 → site ends.0 ≡ site ends.1
    → IsFirstWithin m (turn 5 s 0) (turn 5 (s + 1) 0) (SelfJoined (record { 0 = s }))
self_joined m s ends is there same = record {
  within = (λ e. omega arith, inr (refl, inl (omega arith)));
  applies = (ends, is, same);
  none_earlier = none_of_questions m 5 s 1 passes;
} where
  passes : (q : ℕ) → q < 1 → Applies m (of_segment q s) → ⊥
  passes zero early = not_bad m s ends is there
  passes (suc q) early = absurd (omega arith)

pub end_taken : (m : MachineData) (s : ℕ) (ends : Place × Place) → slice_get m.segments s ≡ Some ends → IsThere m ends.0 × IsThere m ends.1 → (site ends.0 ≡ site ends.1 → ⊥) → HasTakenEnd m s ends
    → IsFirstWithin m (turn 5 s 0) (turn 5 (s + 1) 0) (EndTaken (record { 0 = s }))
end_taken m s ends is there apart taken = record {
  within = (λ e. omega arith, inr (refl, inl (omega arith)));
  applies = (ends, is, taken);
  none_earlier = none_of_questions m 5 s 2 passes;
} where
  passes : (q : ℕ) → q < 2 → Applies m (of_segment q s) → ⊥
  passes zero early = not_bad m s ends is there
  passes (suc zero) early = not_joined m s ends is apart
  passes (suc (suc q)) early = absurd (omega arith)

-- the segment passes all three
pub ends_passed : (m : MachineData) (s : ℕ) (ends : Place × Place) → slice_get m.segments s ≡ Some ends → IsThere m ends.0 × IsThere m ends.1 → (site ends.0 ≡ site ends.1 → ⊥) → (HasTakenEnd m s ends → ⊥)
    → NoneWithin m (turn 5 s 0) (turn 5 (s + 1) 0)
ends_passed m s ends is there apart free = none_of_part m 5 s passes where
  passes : (q : ℕ) → Applies m (of_segment q s) → ⊥
  passes zero = not_bad m s ends is there
  passes (suc zero) = not_joined m s ends is apart
  passes (suc (suc q)) = not_taken m s ends is free
