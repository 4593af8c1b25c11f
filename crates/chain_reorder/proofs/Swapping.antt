-- An exchange of the qubits of two ions, on a layout.
use Rattle.std.proofs.Common.{◌≡◌, ℕ, ◌<◌, true, false, eqb, List, map, length, refl, sym, ◌∙◌, ap, arith, Option, Some, inl, inr}
use Rattle.std.specs.Prelude.{count_by, filter, slice_get}
use Rattle.std.proofs.lemmas.Bool.{cases_Bool, eqb-true}
use Rattle.std.proofs.lemmas.Bool.Decides.{nat_tests}
use Rattle.qccd_base.specs.declared.names.Qubit.{Qubit}
use Rattle.op_table.specs.State.{IonPlace, InTrap, OnSegment, InJunction, Stand, State, is_in_trap, is_at, is_on_segment, is_in_junction, qubit_at}
use Rattle.op_table.specs.Step.{exchanged, swapped}
use Rattle.chain_reorder.specs.Layout.{Layout, Lies, listed, riding, end_on}
use Rattle.chain_reorder.proofs.Lists.{count_seen, found}
use Rattle.chain_reorder.proofs.Steps.{same_seen, at_own, at_other, eqb_same, rechained}
use Rattle.chain_reorder.proofs.Paths.{viewed_as}

abbrev pub exchanging : State → ℕ → ℕ → ℕ → Stand → Stand
exchanging s t low high w = record w { qubit = swapped s t low high w }

-- an ion is at one place
not_at : (t u k i : ℕ) (place : IonPlace) → eqb u t ≡ false → is_at u k place ≡ true → is_at t i place ≡ false
not_at t u k i (InTrap v n) apart at =
    elim (cases_Bool (eqb v t)) [
      | inl own ↦ elim (cases_Bool (eqb v u)) [ inl both ↦ absurd (let e : eqb u t ≡ true = grind (nat_tests, arith) in cc) | inr other ↦ absurd (let bad : false ≡ true = rw other at at in cc) ]
      | inr other ↦ rw other refl
    ]
not_at t u k i (OnSegment g e h) apart at = refl
not_at t u k i (InJunction j h) apart at = refl

pub not_there : (t k i : ℕ) (place : IonPlace) → eqb k i ≡ false → is_at t k place ≡ true → is_at t i place ≡ false
not_there t k i (InTrap v n) apart at =
    elim (cases_Bool (eqb v t)) [
      | inl own ↦ let there : eqb n k ≡ true = rw own at at in let off : eqb n i ≡ false = grind (nat_tests, arith) in rw (own, off) refl
      | inr other ↦ rw other refl
    ]
not_there t k i (OnSegment g e h) apart at = refl
not_there t k i (InJunction j h) apart at = refl

off_trap : (t i g : ℕ) (place : IonPlace) → is_on_segment g place ≡ true → is_at t i place ≡ false
off_trap t i g (InTrap v n) on = cc
off_trap t i g (OnSegment s e h) on = refl
off_trap t i g (InJunction j h) on = refl

within_off : (t i g : ℕ) (place : IonPlace) → is_in_junction g place ≡ true → is_at t i place ≡ false
within_off t i g (InTrap v n) on = cc
within_off t i g (OnSegment s e h) on = refl
within_off t i g (InJunction j h) on = refl

same_qubit : (s : State) (t low high : ℕ) (w : Stand) → is_at t low w.place ≡ false → is_at t high w.place ≡ false → swapped s t low high w ≡ w.qubit
same_qubit s t low high w not_low not_high = rw (not_low, not_high) refl

pub lies_swapped : (s z : State) (l : Layout) (t low high : ℕ) (a b : Qubit) (chain : List Qubit) → z.ions ≡ map (exchanging s t low high) s.ions → low < high
    → Lies s l → slice_get (l.chains t) low ≡ Some a → slice_get (l.chains t) high ≡ Some b → length chain ≡ length (l.chains t) → ((k : ℕ) → slice_get chain k ≡ slice_get (l.chains t) (exchanged low high k))
    → Lies z (rechained t chain l)
lies_swapped s z l t low high a b chain is less lies at_low at_high long each =
    let f : Stand → Stand = exchanging s t low high in
    let first : qubit_at s t low ≡ Some a = found (λ (w : Stand). w.qubit) (λ (w : Stand). is_at t low w.place) s.ions (Some a) (lies.chains t low ∙ ap listed at_low) in
    let second : qubit_at s t high ≡ Some b = found (λ (w : Stand). w.qubit) (λ (w : Stand). is_at t high w.place) s.ions (Some b) (lies.chains t high ∙ ap listed at_high) in
    let chain_at : (u k : ℕ) (o : Option Qubit) (v : Stand → Qubit) → ((w : Stand) → is_at u k w.place ≡ true → swapped s t low high w ≡ v w) → map v (filter (λ (w : Stand). is_at u k w.place) s.ions) ≡ listed o
    → map (λ (w : Stand). w.qubit) (filter (λ (w : Stand). is_at u k w.place) z.ions) ≡ listed o =
    λ u k o v view before. ap (λ xs. map (λ (w : Stand). w.qubit) (filter (λ (w : Stand). is_at u k w.place) xs)) is
    ∙ same_seen (λ (w : Stand). w.qubit) v (λ (w : Stand). is_at u k w.place) (λ (w : Stand). is_at u k w.place) f s.ions (λ w. refl) view ∙ before in
    let own_at : (k : ℕ) → map (λ (w : Stand). w.qubit) (filter (λ (w : Stand). is_at t k w.place) z.ions) ≡ listed (slice_get (l.chains t) (exchanged low high k)) =
    λ k. elim (cases_Bool (eqb k low)) [
      | inl is_low ↦ rw (eqb-true k low is_low, eqb_same low, at_high) (chain_at t low (Some b) (λ _. b) (λ w at. rw (at, second) refl)
          (viewed_as (λ (w : Stand). w.qubit) b (filter (λ (w : Stand). is_at t low w.place) s.ions) a (lies.chains t low ∙ ap listed at_low)))
      | inr not_low ↦ elim (cases_Bool (eqb k high)) [
        | inl is_high ↦
            let apart : eqb high low ≡ false = grind (nat_tests, arith) in
            rw (eqb-true k high is_high, apart, eqb_same high, at_low) (chain_at t high (Some a) (λ _. a) (λ w at. rw (not_there t high low w.place apart at, at, first) refl)
            (viewed_as (λ (w : Stand). w.qubit) a (filter (λ (w : Stand). is_at t high w.place) s.ions) b (lies.chains t high ∙ ap listed at_high)))
        | inr not_high ↦ rw (not_low, not_high) (chain_at t k (slice_get (l.chains t) k) (λ w. w.qubit) (λ w at. same_qubit s t low high w (not_there t k low w.place not_low at) (not_there t k high w.place not_high at)) (lies.chains t k))
      ]
    ] in
    record {
      counts = λ u. ap (count_by (λ w. is_in_trap u w.place)) is ∙ count_seen (λ (w : Stand). is_in_trap u w.place) f s.ions (λ w. refl) ∙ lies.counts u
          ∙ elim (cases_Bool (eqb u t)) [ inl own ↦ rw (eqb-true u t own) (sym long ∙ ap length (sym (at_own t t chain l.chains (eqb_same t)))) | inr other ↦ ap length (sym (at_other t u chain l.chains other)) ];
      chains = λ u k. elim (cases_Bool (eqb u t)) [
        | inl own ↦ rw (eqb-true u t own) (own_at k ∙ ap listed (sym (each k)) ∙ ap (λ c. listed (slice_get c k)) (sym (at_own t t chain l.chains (eqb_same t))))
        | inr other ↦ chain_at u k (slice_get (l.chains u) k) (λ w. w.qubit) (λ w at. same_qubit s t low high w (not_at t u k low w.place other at) (not_at t u k high w.place other at)) (lies.chains u k)
            ∙ ap (λ c. listed (slice_get c k)) (sym (at_other t u chain l.chains other))
      ];
      riders = λ g. ap (λ xs. map riding (filter (λ (w : Stand). is_on_segment g w.place) xs)) is
          ∙ same_seen riding riding (λ w. is_on_segment g w.place) (λ w. is_on_segment g w.place) f s.ions (λ w. refl) (λ w on. ap (λ q. (end_on w.place, q)) (same_qubit s t low high w (off_trap t low g w.place on) (off_trap t high g w.place on))) ∙ lies.riders g;
      carries = λ j. ap (λ xs. map (λ (w : Stand). w.qubit) (filter (λ (w : Stand). is_in_junction j w.place) xs)) is
          ∙ same_seen (λ w. w.qubit) (λ w. w.qubit) (λ w. is_in_junction j w.place) (λ w. is_in_junction j w.place) f s.ions (λ w. refl) (λ w on. same_qubit s t low high w (within_off t low j w.place on) (within_off t high j w.place on)) ∙ lies.carries j;
    }
