-- Into a junction and out of it.
use Rattle.std.proofs.Common.{◌≡◌, ℕ, true, false, cond, eqb, ◌||◌, map, refl, sym, ◌∙◌, ap, arith, Some, None, inl, inr}
use Rattle.std.specs.Prelude.{filter}
use Rattle.std.proofs.lemmas.Bool.{cases_Bool, eqb-true}
use Rattle.std.proofs.lemmas.Bool.Decides.{nat_tests}
use Rattle.qccd_base.specs.declared.names.Qubit.{Qubit}
use Rattle.qccd_base.specs.declared.names.SegEnd.{SegEnd}
use Rattle.time_heat.specs.Heat.{entered_heat}
use Rattle.op_table.specs.State.{IonPlace, InTrap, OnSegment, InJunction, Stand, State, is_in_trap, is_at, is_on_segment, is_in_junction}
use Rattle.op_table.specs.Step.{place_heat}
use Rattle.chain_reorder.specs.Layout.{Layout, Lies, listed, with_at, riding, end_on}
use Rattle.chain_reorder.proofs.Lists.{nothing_from}
use Rattle.chain_reorder.proofs.Steps.{at_own, at_other, eqb_same}
use Rattle.chain_reorder.proofs.Paths.{replaced, kept_count, kept_chain, kept_rider, kept_carry, gone, came, viewed}

abbrev pub enter_place : ℕ → ℕ → IonPlace → IonPlace
enter_place g j place = cond (is_on_segment g place) (InJunction j (entered_heat (place_heat place))) place

abbrev pub exit_place : ℕ → ℕ → SegEnd → IonPlace → IonPlace
exit_place g j e place = cond (is_in_junction j place) (OnSegment g e (place_heat place)) place

-- ---- into a junction

entered_in : (g j u : ℕ) (place : IonPlace) → is_in_trap u (enter_place g j place) ≡ is_in_trap u place
entered_in g j u (InTrap t k) = refl
entered_in g j u (OnSegment s e heat) = elim (cases_Bool (eqb s g)) [ inl own ↦ rw own refl | inr other ↦ rw other refl ]
entered_in g j u (InJunction i heat) = refl

entered_at : (g j u k : ℕ) (place : IonPlace) → is_at u k (enter_place g j place) ≡ is_at u k place
entered_at g j u k (InTrap t i) = refl
entered_at g j u k (OnSegment s e heat) = elim (cases_Bool (eqb s g)) [ inl own ↦ rw own refl | inr other ↦ rw other refl ]
entered_at g j u k (InJunction i heat) = refl

entered_off : (g j : ℕ) (place : IonPlace) → is_on_segment g (enter_place g j place) ≡ false
entered_off g j (InTrap t k) = refl
entered_off g j (OnSegment s e heat) = elim (cases_Bool (eqb s g)) [ inl own ↦ rw own refl | inr other ↦ rw other other ]
entered_off g j (InJunction i heat) = refl

entered_on : (g j h : ℕ) (place : IonPlace) → eqb h g ≡ false → is_on_segment h (enter_place g j place) ≡ is_on_segment h place
entered_on g j h (InTrap t k) apart = refl
entered_on g j h (OnSegment s e heat) apart = elim (cases_Bool (eqb s g)) [
  | inl own ↦ let off : eqb s h ≡ false = grind (nat_tests, arith) in rw (own, off) refl
  | inr other ↦ rw other refl
]
entered_on g j h (InJunction i heat) apart = refl

entered_stays : (g j h : ℕ) (place : IonPlace) → eqb h g ≡ false → is_on_segment h place ≡ true → enter_place g j place ≡ place
entered_stays g j h (InTrap t k) apart on = refl
entered_stays g j h (OnSegment s e heat) apart on = let there : eqb s h ≡ true = on in let other : eqb s g ≡ false = grind (nat_tests, arith) in rw other refl
entered_stays g j h (InJunction i heat) apart on = refl

entered_within : (g j : ℕ) (place : IonPlace) → is_in_junction j (enter_place g j place) ≡ (is_on_segment g place || is_in_junction j place)
entered_within g j (InTrap t k) = refl
entered_within g j (OnSegment s e heat) = elim (cases_Bool (eqb s g)) [ inl own ↦ rw own (eqb_same j) | inr other ↦ rw other refl ]
entered_within g j (InJunction i heat) = refl

entered_without : (g j i : ℕ) (place : IonPlace) → eqb i j ≡ false → is_in_junction i (enter_place g j place) ≡ is_in_junction i place
entered_without g j i (InTrap t k) apart = refl
entered_without g j i (OnSegment s e heat) apart = elim (cases_Bool (eqb s g)) [
  | inl own ↦ let off : eqb j i ≡ false = grind (nat_tests, arith) in rw (own, off) refl
  | inr other ↦ rw other refl
]
entered_without g j i (InJunction h heat) apart = refl

pub lies_entered : (s z : State) (l : Layout) (g j : ℕ) (e : SegEnd) (q : Qubit) → z.ions ≡ map (replaced (enter_place g j)) s.ions
    → Lies s l → l.riders g ≡ Some (e, q) → l.carries j ≡ None → Lies z (record l { riders = with_at g None l.riders; carries = with_at j (Some q) l.carries })
lies_entered s z l g j e q is lies on free = record {
  counts = λ u. kept_count s z l u (enter_place g j) is lies (entered_in g j u);
  chains = λ u k. kept_chain s z l u k k (enter_place g j) is lies (entered_at g j u k);
  riders = λ h. elim (cases_Bool (eqb h g)) [
    | inl own ↦ rw (eqb-true h g own) (gone s z riding (is_on_segment g) (enter_place g j) is (entered_off g j) ∙ ap listed (sym (at_own g g None l.riders (eqb_same g))))
    | inr other ↦ kept_rider s z l h (enter_place g j) is lies (λ place. entered_on g j h place other) (λ place here. entered_stays g j h place other here) ∙ ap listed (sym (at_other g h None l.riders other))
  ];
  carries = λ i. elim (cases_Bool (eqb i j)) [
    | inl own ↦ rw (eqb-true i j own) (came s z (λ w. w.qubit) (λ w. w.qubit) (is_in_junction j) (is_on_segment g) (is_in_junction j) (enter_place g j) (listed (Some q)) is (entered_within g j)
        (nothing_from (λ (w : Stand). w.qubit) (λ (w : Stand). is_in_junction j w.place) s.ions (lies.carries j ∙ ap listed free)) (λ w here. refl)
        (viewed riding (λ (r : SegEnd × Qubit). r.1) (filter (λ (w : Stand). is_on_segment g w.place) s.ions) (Some (e, q)) (lies.riders g ∙ ap listed on))
        ∙ ap listed (sym (at_own j j (Some q) l.carries (eqb_same j))))
    | inr other ↦ kept_carry s z l i (enter_place g j) is lies (λ place. entered_without g j i place other) ∙ ap listed (sym (at_other j i (Some q) l.carries other))
  ];
}

-- ---- out of a junction

exited_in : (g j u : ℕ) (e : SegEnd) (place : IonPlace) → is_in_trap u (exit_place g j e place) ≡ is_in_trap u place
exited_in g j u e (InTrap t k) = refl
exited_in g j u e (OnSegment s f heat) = refl
exited_in g j u e (InJunction i heat) = elim (cases_Bool (eqb i j)) [ inl own ↦ rw own refl | inr other ↦ rw other refl ]

exited_at : (g j u k : ℕ) (e : SegEnd) (place : IonPlace) → is_at u k (exit_place g j e place) ≡ is_at u k place
exited_at g j u k e (InTrap t i) = refl
exited_at g j u k e (OnSegment s f heat) = refl
exited_at g j u k e (InJunction i heat) = elim (cases_Bool (eqb i j)) [ inl own ↦ rw own refl | inr other ↦ rw other refl ]

exited_off : (g j : ℕ) (e : SegEnd) (place : IonPlace) → is_in_junction j (exit_place g j e place) ≡ false
exited_off g j e (InTrap t k) = refl
exited_off g j e (OnSegment s f heat) = refl
exited_off g j e (InJunction i heat) = elim (cases_Bool (eqb i j)) [ inl own ↦ rw own refl | inr other ↦ rw other other ]

exited_without : (g j i : ℕ) (e : SegEnd) (place : IonPlace) → eqb i j ≡ false → is_in_junction i (exit_place g j e place) ≡ is_in_junction i place
exited_without g j i e (InTrap t k) apart = refl
exited_without g j i e (OnSegment s f heat) apart = refl
exited_without g j i e (InJunction h heat) apart = elim (cases_Bool (eqb h j)) [
  | inl own ↦ let off : eqb h i ≡ false = grind (nat_tests, arith) in rw (own, off) refl
  | inr other ↦ rw other refl
]

exited_on : (g j : ℕ) (e : SegEnd) (place : IonPlace) → is_on_segment g (exit_place g j e place) ≡ (is_in_junction j place || is_on_segment g place)
exited_on g j e (InTrap t k) = refl
exited_on g j e (OnSegment s f heat) = refl
exited_on g j e (InJunction i heat) = elim (cases_Bool (eqb i j)) [ inl own ↦ rw own (eqb_same g) | inr other ↦ rw other refl ]

exited_apart : (g j h : ℕ) (e : SegEnd) (place : IonPlace) → eqb h g ≡ false → is_on_segment h (exit_place g j e place) ≡ is_on_segment h place
exited_apart g j h e (InTrap t k) apart = refl
exited_apart g j h e (OnSegment s f heat) apart = refl
exited_apart g j h e (InJunction i heat) apart = elim (cases_Bool (eqb i j)) [
  | inl own ↦ let off : eqb g h ≡ false = grind (nat_tests, arith) in rw (own, off) refl
  | inr other ↦ rw other refl
]

exited_stays : (g j h : ℕ) (e : SegEnd) (place : IonPlace) → is_on_segment h place ≡ true → exit_place g j e place ≡ place
exited_stays g j h e (InTrap t k) on = refl
exited_stays g j h e (OnSegment s f heat) on = refl
exited_stays g j h e (InJunction i heat) on = cc

exited_end : (g j : ℕ) (e : SegEnd) (place : IonPlace) → is_in_junction j place ≡ true → end_on (exit_place g j e place) ≡ e
exited_end g j e (InTrap t k) here = cc
exited_end g j e (OnSegment s f heat) here = cc
exited_end g j e (InJunction i heat) here = let own : eqb i j ≡ true = here in rw own refl

pub lies_exited : (s z : State) (l : Layout) (g j : ℕ) (e : SegEnd) (q : Qubit) → z.ions ≡ map (replaced (exit_place g j e)) s.ions
    → Lies s l → l.carries j ≡ Some q → l.riders g ≡ None → Lies z (record l { riders = with_at g (Some (e, q)) l.riders; carries = with_at j None l.carries })
lies_exited s z l g j e q is lies held free = record {
  counts = λ u. kept_count s z l u (exit_place g j e) is lies (exited_in g j u e);
  chains = λ u k. kept_chain s z l u k k (exit_place g j e) is lies (exited_at g j u k e);
  riders = λ h. elim (cases_Bool (eqb h g)) [
    | inl own ↦ rw (eqb-true h g own) (came s z riding (λ w. (e, w.qubit)) (is_on_segment g) (is_in_junction j) (is_on_segment g) (exit_place g j e) (listed (Some (e, q))) is (exited_on g j e)
        (nothing_from riding (λ (w : Stand). is_on_segment g w.place) s.ions (lies.riders g ∙ ap listed free)) (λ w here. ap (λ end. (end, w.qubit)) (exited_end g j e w.place here))
        (viewed (λ w. w.qubit) (λ (r : Qubit). (e, r)) (filter (λ (w : Stand). is_in_junction j w.place) s.ions) (Some q) (lies.carries j ∙ ap listed held))
        ∙ ap listed (sym (at_own g g (Some (e, q)) l.riders (eqb_same g))))
    | inr other ↦ kept_rider s z l h (exit_place g j e) is lies (λ place. exited_apart g j h e place other) (λ place here. exited_stays g j h e place here) ∙ ap listed (sym (at_other g h (Some (e, q)) l.riders other))
  ];
  carries = λ i. elim (cases_Bool (eqb i j)) [
    | inl own ↦ rw (eqb-true i j own) (gone s z (λ w. w.qubit) (is_in_junction j) (exit_place g j e) is (exited_off g j e) ∙ ap listed (sym (at_own j j None l.carries (eqb_same j))))
    | inr other ↦ kept_carry s z l i (exit_place g j e) is lies (λ place. exited_without g j i e place other) ∙ ap listed (sym (at_other j i None l.carries other))
  ];
}
