-- What operations off the traps do to a layout.
use Rattle.std.proofs.Common.{◌≡◌, ℕ, Bool, true, false, eqb, ◌||◌, List, [], ◌∷◌, map, length, refl, sym, ◌∙◌, ap, arith, Option, Some, None, inl, inr}
use Rattle.std.specs.Prelude.{count_by, filter, slice_get, option_map}
use Rattle.std.proofs.lemmas.Bool.{cases_Bool, eqb-true}
use Rattle.std.proofs.lemmas.Bool.Decides.{nat_tests}
use Rattle.qccd_base.specs.declared.names.Qubit.{Qubit}
use Rattle.qccd_base.specs.declared.names.SegEnd.{SegEnd}
use Rattle.op_table.specs.State.{IonPlace, InTrap, OnSegment, InJunction, Stand, State, is_in_trap, is_at, is_on_segment, is_in_junction, ions_in}
use Rattle.op_table.specs.Step.{move_place, other_end}
use Rattle.chain_reorder.specs.Layout.{Layout, Lies, listed, with_at, riding, end_on}
use Rattle.chain_reorder.proofs.Lists.{count_seen, filter_none, seen}
use Rattle.chain_reorder.proofs.Steps.{same_seen, at_own, at_other, eqb_same}

abbrev pub replaced : (IonPlace → IonPlace) → Stand → Stand
replaced f w = record w { place = f w.place }

-- ---- what a change of places does not touch

pub kept_count : (s z : State) (l : Layout) (u : ℕ) (f : IonPlace → IonPlace) → z.ions ≡ map (replaced f) s.ions → Lies s l → ((place : IonPlace) → is_in_trap u (f place) ≡ is_in_trap u place) → ions_in z u ≡ length (l.chains u)
kept_count s z l u f is lies same = ap (count_by (λ w. is_in_trap u w.place)) is ∙ count_seen (λ (w : Stand). is_in_trap u w.place) (replaced f) s.ions (λ w. same w.place) ∙ lies.counts u

pub kept_chain : (s z : State) (l : Layout) (u k j : ℕ) (f : IonPlace → IonPlace) → z.ions ≡ map (replaced f) s.ions → Lies s l → ((place : IonPlace) → is_at u k (f place) ≡ is_at u j place)
    → map (λ (w : Stand). w.qubit) (filter (λ (w : Stand). is_at u k w.place) z.ions) ≡ listed (slice_get (l.chains u) j)
kept_chain s z l u k j f is lies same = ap (λ xs. map (λ (w : Stand). w.qubit) (filter (λ (w : Stand). is_at u k w.place) xs)) is
    ∙ same_seen (λ (w : Stand). w.qubit) (λ (w : Stand). w.qubit) (λ (w : Stand). is_at u k w.place) (λ (w : Stand). is_at u j w.place) (replaced f) s.ions (λ w. same w.place) (λ w _. refl) ∙ lies.chains u j

pub kept_rider : (s z : State) (l : Layout) (g : ℕ) (f : IonPlace → IonPlace) → z.ions ≡ map (replaced f) s.ions → Lies s l → ((place : IonPlace) → is_on_segment g (f place) ≡ is_on_segment g place) → ((place : IonPlace) → is_on_segment g place ≡ true → f place ≡ place)
    → map riding (filter (λ (w : Stand). is_on_segment g w.place) z.ions) ≡ listed (l.riders g)
kept_rider s z l g f is lies same stays = ap (λ xs. map riding (filter (λ (w : Stand). is_on_segment g w.place) xs)) is
    ∙ same_seen riding riding (λ (w : Stand). is_on_segment g w.place) (λ (w : Stand). is_on_segment g w.place) (replaced f) s.ions (λ w. same w.place) (λ w on. ap (λ place. (end_on place, w.qubit)) (stays w.place on)) ∙ lies.riders g

pub kept_carry : (s z : State) (l : Layout) (j : ℕ) (f : IonPlace → IonPlace) → z.ions ≡ map (replaced f) s.ions → Lies s l → ((place : IonPlace) → is_in_junction j (f place) ≡ is_in_junction j place)
    → map (λ (w : Stand). w.qubit) (filter (λ (w : Stand). is_in_junction j w.place) z.ions) ≡ listed (l.carries j)
kept_carry s z l j f is lies same = ap (λ xs. map (λ (w : Stand). w.qubit) (filter (λ (w : Stand). is_in_junction j w.place) xs)) is
    ∙ same_seen (λ (w : Stand). w.qubit) (λ (w : Stand). w.qubit) (λ (w : Stand). is_in_junction j w.place) (λ (w : Stand). is_in_junction j w.place) (replaced f) s.ions (λ w. same w.place) (λ w _. refl) ∙ lies.carries j

-- nothing passes a test any more
pub gone : {Z : Type 0} (s z : State) (v : Stand → Z) (p : IonPlace → Bool) (f : IonPlace → IonPlace) → z.ions ≡ map (replaced f) s.ions → ((place : IonPlace) → p (f place) ≡ false) → map v (filter (λ (w : Stand). p w.place) z.ions) ≡ []
gone s z v p f is none = ap (λ xs. map v (filter (λ (w : Stand). p w.place) xs)) is
    ∙ same_seen v v (λ (w : Stand). p w.place) (λ _. false) (replaced f) s.ions (λ w. none w.place) (λ w bad. absurd (let h : false ≡ true = bad in cc)) ∙ ap (map v) (filter_none (λ _. false) s.ions (λ _. refl))

-- what passed test q passes test p now, where nothing passed p before (r is p of before, or less)
pub came : {Z : Type 0} (s z : State) (v : Stand → Z) (u : Stand → Z) (p q r : IonPlace → Bool) (f : IonPlace → IonPlace) (zs : List Z) → z.ions ≡ map (replaced f) s.ions
    → ((place : IonPlace) → p (f place) ≡ (q place || r place)) → filter (λ (w : Stand). r w.place) s.ions ≡ [] → ((w : Stand) → q w.place ≡ true → v (replaced f w) ≡ u w)
    → map u (filter (λ (w : Stand). q w.place) s.ions) ≡ zs
    → map v (filter (λ (w : Stand). p w.place) z.ions) ≡ zs
came s z v u p q r f zs is test none view before = ap (λ xs. map v (filter (λ (w : Stand). p w.place) xs)) is
    ∙ seen v u (λ (w : Stand). p w.place) (λ (w : Stand). q w.place) (λ (w : Stand). r w.place) (replaced f) s.ions (λ w. test w.place) none view ∙ before

-- views of what passes, from a view that tells more
pub viewed : {Y Z : Type 0} (v : Stand → Y) (g : Y → Z) (ws : List Stand) (o : Option Y) → map v ws ≡ listed o → map (λ w. g (v w)) ws ≡ listed (option_map g o)
viewed v g ws o is = map_map v g ws ∙ ap (map g) is ∙ listed_map g o
  where
    map_map : {Y Z : Type 0} (v : Stand → Y) (g : Y → Z) (ws : List Stand) → map (λ w. g (v w)) ws ≡ map g (map v ws)
    map_map v g [] = refl
    map_map v g (w ∷ ws) = ap (λ rest. g (v w) ∷ rest) (map_map v g ws)

    listed_map : {Y Z : Type 0} (g : Y → Z) (o : Option Y) → map g (listed o) ≡ listed (option_map g o)
    listed_map g None = refl
    listed_map g (Some y) = refl

-- a view that is the same for all that passes
pub viewed_as : {Y Z : Type 0} (v : Stand → Y) (z : Z) (ws : List Stand) (y : Y) → map v ws ≡ y ∷ [] → map (λ w. z) ws ≡ z ∷ []
viewed_as v z ws y is = viewed v (λ _. z) ws (Some y) is

-- ---- a move

moved_on : (g h : ℕ) (place : IonPlace) → is_on_segment h (move_place g place) ≡ is_on_segment h place
moved_on g h (InTrap t k) = refl
moved_on g h (OnSegment s e heat) = elim (cases_Bool (eqb s g)) [ inl own ↦ rw own refl | inr other ↦ rw other refl ]
moved_on g h (InJunction j heat) = refl

moved_in : (g u : ℕ) (place : IonPlace) → is_in_trap u (move_place g place) ≡ is_in_trap u place
moved_in g u (InTrap t k) = refl
moved_in g u (OnSegment s e heat) = elim (cases_Bool (eqb s g)) [ inl own ↦ rw own refl | inr other ↦ rw other refl ]
moved_in g u (InJunction j heat) = refl

moved_at : (g u k : ℕ) (place : IonPlace) → is_at u k (move_place g place) ≡ is_at u k place
moved_at g u k (InTrap t i) = refl
moved_at g u k (OnSegment s e heat) = elim (cases_Bool (eqb s g)) [ inl own ↦ rw own refl | inr other ↦ rw other refl ]
moved_at g u k (InJunction j heat) = refl

moved_within : (g j : ℕ) (place : IonPlace) → is_in_junction j (move_place g place) ≡ is_in_junction j place
moved_within g j (InTrap t k) = refl
moved_within g j (OnSegment s e heat) = elim (cases_Bool (eqb s g)) [ inl own ↦ rw own refl | inr other ↦ rw other refl ]
moved_within g j (InJunction i heat) = refl

moved_end : (g : ℕ) (place : IonPlace) → is_on_segment g place ≡ true → end_on (move_place g place) ≡ other_end (end_on place)
moved_end g (InTrap t k) on = cc
moved_end g (OnSegment s e heat) on = let own : eqb s g ≡ true = on in rw own refl
moved_end g (InJunction j heat) on = cc

moved_stays : (g h : ℕ) (place : IonPlace) → eqb h g ≡ false → is_on_segment h place ≡ true → move_place g place ≡ place
moved_stays g h (InTrap t k) apart on = refl
moved_stays g h (OnSegment s e heat) apart on =
    let there : eqb s h ≡ true = on in
    let other : eqb s g ≡ false = grind (nat_tests, arith) in rw other refl
moved_stays g h (InJunction j heat) apart on = refl

pub lies_moved : (s z : State) (l : Layout) (g : ℕ) (e : SegEnd) (q : Qubit) → z.ions ≡ map (replaced (move_place g)) s.ions
    → Lies s l → l.riders g ≡ Some (e, q) → Lies z (record l { riders = with_at g (Some (other_end e, q)) l.riders })
lies_moved s z l g e q is lies on = record {
  counts = λ u. kept_count s z l u (move_place g) is lies (moved_in g u);
  chains = λ u k. kept_chain s z l u k k (move_place g) is lies (moved_at g u k);
  riders = λ h. elim (cases_Bool (eqb h g)) [
    | inl own ↦ rw (eqb-true h g own) (ap (λ xs. map riding (filter (λ (w : Stand). is_on_segment g w.place) xs)) is
        ∙ same_seen riding (λ w. (other_end (end_on w.place), w.qubit)) (λ (w : Stand). is_on_segment g w.place) (λ (w : Stand). is_on_segment g w.place) (replaced (move_place g)) s.ions
        (λ w. moved_on g g w.place) (λ w here. ap (λ end. (end, w.qubit)) (moved_end g w.place here))
        ∙ viewed riding (λ (r : SegEnd × Qubit). (other_end r.0, r.1)) (filter (λ (w : Stand). is_on_segment g w.place) s.ions) (Some (e, q)) (lies.riders g ∙ ap listed on)
        ∙ ap listed (sym (at_own g g (Some (other_end e, q)) l.riders (eqb_same g))))
    | inr other ↦ kept_rider s z l h (move_place g) is lies (moved_on g h) (λ place here. moved_stays g h place other here) ∙ ap listed (sym (at_other g h (Some (other_end e, q)) l.riders other))
  ];
  carries = λ j. kept_carry s z l j (move_place g) is lies (moved_within g j);
}
