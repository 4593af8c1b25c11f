-- What each operation does to a layout.
use Rattle.std.proofs.Common.{◌≡◌, ℕ, Bool, true, false, eqb, ◌||◌, List, map, length, refl, sym, ◌∙◌, ap, arith, inl, inr}
use Rattle.std.specs.Prelude.{count_by, filter, slice_get}
use Rattle.std.proofs.lemmas.Bool.{cases_Bool, eqb-true}
use Rattle.std.proofs.lemmas.Bool.Decides.{nat_tests}
use Rattle.qccd_base.specs.declared.names.Qubit.{Qubit}
use Rattle.op_table.specs.State.{IonPlace, InTrap, OnSegment, InJunction, Stand, State, is_in_trap, is_at, is_on_segment, is_in_junction}
use Rattle.op_table.specs.Step.{rotated, exchanged}
use Rattle.chain_reorder.specs.Layout.{Layout, Lies, listed, with_at, riding, end_on}
use Rattle.chain_reorder.proofs.Lists.{count_seen, filter_none, seen}

exchanged_back : (a b i k : ℕ) → eqb (exchanged a b i) k ≡ eqb i (exchanged a b k)
exchanged_back a b i k = grind (nat_tests, arith)

rotated_own : (t a b k : ℕ) (place : IonPlace) → is_at t k (rotated t a b place) ≡ is_at t (exchanged a b k) place
rotated_own t a b k (InTrap v i) = elim (cases_Bool (eqb v t)) [
  | inl own ↦ rw own (rw own (exchanged_back a b i k))
  | inr other ↦ rw other (rw other refl)
]
rotated_own t a b k (OnSegment g e h) = refl
rotated_own t a b k (InJunction j h) = refl

rotated_other : (u t a b k : ℕ) (place : IonPlace) → eqb u t ≡ false → is_at u k (rotated t a b place) ≡ is_at u k place
rotated_other u t a b k (InTrap v i) other = elim (cases_Bool (eqb v t)) [
  | inl own ↦
      let apart : eqb v u ≡ false = grind (nat_tests, arith) in
      rw (own, apart) refl
  | inr others ↦ rw others refl
]
rotated_other u t a b k (OnSegment g e h) other = refl
rotated_other u t a b k (InJunction j h) other = refl

rotated_in : (u t a b : ℕ) (place : IonPlace) → is_in_trap u (rotated t a b place) ≡ is_in_trap u place
rotated_in u t a b (InTrap v i) = elim (cases_Bool (eqb v t)) [ inl own ↦ rw own refl | inr other ↦ rw other refl ]
rotated_in u t a b (OnSegment g e h) = refl
rotated_in u t a b (InJunction j h) = refl

rotated_on : (u t a b : ℕ) (place : IonPlace) → is_on_segment u (rotated t a b place) ≡ is_on_segment u place
rotated_on u t a b (InTrap v i) = elim (cases_Bool (eqb v t)) [ inl own ↦ rw own refl | inr other ↦ rw other refl ]
rotated_on u t a b (OnSegment g e h) = refl
rotated_on u t a b (InJunction j h) = refl

rotated_within : (u t a b : ℕ) (place : IonPlace) → is_in_junction u (rotated t a b place) ≡ is_in_junction u place
rotated_within u t a b (InTrap v i) = elim (cases_Bool (eqb v t)) [ inl own ↦ rw own refl | inr other ↦ rw other refl ]
rotated_within u t a b (OnSegment g e h) = refl
rotated_within u t a b (InJunction j h) = refl

rotated_end : (t a b : ℕ) (place : IonPlace) → end_on (rotated t a b place) ≡ end_on place
rotated_end t a b (InTrap v i) = elim (cases_Bool (eqb v t)) [ inl own ↦ rw own refl | inr other ↦ rw other refl ]
rotated_end t a b (OnSegment g e h) = refl
rotated_end t a b (InJunction j h) = refl

pub or_false : (b : Bool) → b ≡ (b || false)
or_false true = refl
or_false false = refl

pub eqb_same : (n : ℕ) → eqb n n ≡ true
eqb_same n = grind (nat_tests, arith)

-- tests that see nothing else: the simple form of seen
pub same_seen : {X Z : Type 0} (v u : X → Z) (p q : X → Bool) (f : X → X) (xs : List X) → ((x : X) → p (f x) ≡ q x) → ((x : X) → q x ≡ true → v (f x) ≡ u x)
    → map v (filter p (map f xs)) ≡ map u (filter q xs)
same_seen v u p q f xs test view = seen v u p q (λ _. false) f xs (λ x. test x ∙ or_false (q x)) (filter_none (λ _. false) xs (λ _. refl)) view

-- with another chain at one trap
abbrev pub rechained : ℕ → List Qubit → Layout → Layout
rechained t chain l = record l { chains = with_at t chain l.chains }

pub at_own : {X : Type 0} (n k : ℕ) (x : X) (f : ℕ → X) → eqb k n ≡ true → with_at n x f k ≡ x
at_own n k x f own = rw own refl

pub at_other : {X : Type 0} (n k : ℕ) (x : X) (f : ℕ → X) → eqb k n ≡ false → with_at n x f k ≡ f k
at_other n k x f other = rw other refl

-- an exchange of two ions of a trap
pub lies_rotated : (s z : State) (l : Layout) (t a b : ℕ) (chain : List Qubit) → z.ions ≡ map (λ (w : Stand). record w { place = rotated t a b w.place }) s.ions
    → Lies s l → length chain ≡ length (l.chains t) → ((k : ℕ) → slice_get chain k ≡ slice_get (l.chains t) (exchanged a b k))
    → Lies z (rechained t chain l)
lies_rotated s z l t a b chain is lies long each =
    let f : Stand → Stand = λ w. record w { place = rotated t a b w.place } in
    record {
      counts = λ u. ap (count_by (λ w. is_in_trap u w.place)) is ∙ count_seen (λ (w : Stand). is_in_trap u w.place) f s.ions (λ w. rotated_in u t a b w.place) ∙ lies.counts u
          ∙ elim (cases_Bool (eqb u t)) [ inl own ↦ rw (eqb-true u t own) (sym long ∙ ap length (sym (at_own t t chain l.chains (eqb_same t)))) | inr other ↦ ap length (sym (at_other t u chain l.chains other)) ];
      chains = λ u k. ap (λ xs. map (λ (w : Stand). w.qubit) (filter (λ (w : Stand). is_at u k w.place) xs)) is
          ∙ elim (cases_Bool (eqb u t)) [
            | inl own ↦ rw (eqb-true u t own) (same_seen (λ w. w.qubit) (λ w. w.qubit) (λ w. is_at t k w.place) (λ w. is_at t (exchanged a b k) w.place) f s.ions (λ w. rotated_own t a b k w.place) (λ w _. refl)
                ∙ lies.chains t (exchanged a b k) ∙ ap listed (sym (each k)) ∙ ap (λ c. listed (slice_get c k)) (sym (at_own t t chain l.chains (eqb_same t))))
            | inr other ↦ same_seen (λ w. w.qubit) (λ w. w.qubit) (λ w. is_at u k w.place) (λ w. is_at u k w.place) f s.ions (λ w. rotated_other u t a b k w.place other) (λ w _. refl)
                ∙ lies.chains u k ∙ ap (λ c. listed (slice_get c k)) (sym (at_other t u chain l.chains other))
          ];
      riders = λ g. ap (λ xs. map riding (filter (λ (w : Stand). is_on_segment g w.place) xs)) is
          ∙ same_seen riding riding (λ w. is_on_segment g w.place) (λ w. is_on_segment g w.place) f s.ions (λ w. rotated_on g t a b w.place) (λ w on. ap (λ e. (e, w.qubit)) (rotated_end t a b w.place)) ∙ lies.riders g;
      carries = λ j. ap (λ xs. map (λ (w : Stand). w.qubit) (filter (λ (w : Stand). is_in_junction j w.place) xs)) is
          ∙ same_seen (λ w. w.qubit) (λ w. w.qubit) (λ w. is_in_junction j w.place) (λ w. is_in_junction j w.place) f s.ions (λ w. rotated_within j t a b w.place) (λ w _. refl) ∙ lies.carries j;
    }
