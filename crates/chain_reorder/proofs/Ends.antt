-- Off the end of a chain and onto it.
use Rattle.std.proofs.Common.{◌≡◌, ℕ, zero, suc, ◌+◌, ◌-◌, Bool, true, false, cond, eqb, ◌||◌, List, [], ◌∷◌, ◌++◌, map, length, refl, sym, ◌∙◌, ap, arith, Some, None, inl, inr, ◌⊎◌, add-one, length-append}
use Rattle.std.specs.Prelude.{count_by, filter, slice_get}
use Rattle.std.proofs.lemmas.Bool.{cases_Bool, eqb-true}
use Rattle.std.proofs.lemmas.Bool.Decides.{nat_tests}
use Rattle.qccd_base.specs.declared.names.Qubit.{Qubit}
use Rattle.qccd_base.specs.declared.names.SegEnd.{SegEnd}
use Rattle.qccd_base.specs.declared.names.End.{End}
use Rattle.qccd_base.specs.declared.names.End.TheVariants.{Left, Right}
use Rattle.op_table.specs.State.{IonPlace, InTrap, OnSegment, InJunction, Stand, State, is_in_trap, is_at, is_on_segment, is_in_junction, ions_in}
use Rattle.op_table.specs.Step.{split_place, shifted_down}
use Rattle.chain_reorder.specs.Layout.{Layout, Lies, listed, with_at, riding, end_on, joined}
use Rattle.chain_reorder.proofs.Lists.{count_less, nothing_from, counted}
use Rattle.chain_reorder.proofs.Steps.{at_own, at_other, eqb_same}
use Rattle.chain_reorder.proofs.Paths.{replaced, kept_count, kept_chain, kept_rider, kept_carry, gone, came, viewed}

-- index k of the new chain is index j of the old one, or is past its end
abbrev pub Comes : ℕ → (IonPlace → IonPlace) → List Qubit → List Qubit → ℕ → Type 0
Comes t f old new k = ((j : ℕ) × ((place : IonPlace) → is_at t k (f place) ≡ is_at t j place) × (slice_get new k ≡ slice_get old j))
    ⊎ (((place : IonPlace) → is_at t k (f place) ≡ false) × (slice_get new k ≡ None))

-- a change of places by which the ion at index i of trap t goes onto segment g
pub record Splits (t i g : ℕ) (e : SegEnd) (f : IonPlace → IonPlace) : Type 0 where
  pub fewer : (place : IonPlace) → cond (is_in_trap t (f place)) 1 0 + cond (is_at t i place) 1 0 ≡ cond (is_in_trap t place) 1 0
  pub others_in : (u : ℕ) → eqb u t ≡ false → (place : IonPlace) → is_in_trap u (f place) ≡ is_in_trap u place
  pub others_at : (u k : ℕ) → eqb u t ≡ false → (place : IonPlace) → is_at u k (f place) ≡ is_at u k place
  pub onto : (place : IonPlace) → is_on_segment g (f place) ≡ (is_at t i place || is_on_segment g place)
  pub other_on : (h : ℕ) → eqb h g ≡ false → (place : IonPlace) → is_on_segment h (f place) ≡ is_on_segment h place
  pub stays : (h : ℕ) (place : IonPlace) → is_on_segment h place ≡ true → f place ≡ place
  pub within : (j : ℕ) (place : IonPlace) → is_in_junction j (f place) ≡ is_in_junction j place
  pub end : (place : IonPlace) → is_at t i place ≡ true → end_on (f place) ≡ e

pub lies_split : (s z : State) (l : Layout) (t i g : ℕ) (e : SegEnd) (q : Qubit) (f : IonPlace → IonPlace) (chain : List Qubit) → z.ions ≡ map (replaced f) s.ions → Splits t i g e f
    → ((k : ℕ) → Comes t f (l.chains t) chain k) → Lies s l → slice_get (l.chains t) i ≡ Some q → length chain + 1 ≡ length (l.chains t) → l.riders g ≡ None
    → Lies z (record l { chains = with_at t chain l.chains; riders = with_at g (Some (e, q)) l.riders })
lies_split s z l t i g e q f chain is splits comes lies there shorter free =
    let one : count_by (λ (w : Stand). is_at t i w.place) s.ions ≡ 1 = counted (λ (w : Stand). w.qubit) (λ (w : Stand). is_at t i w.place) s.ions (Some q) (lies.chains t i ∙ ap listed there) in
    let fewer : count_by (λ (w : Stand). is_in_trap t w.place) (map (replaced f) s.ions) + count_by (λ (w : Stand). is_at t i w.place) s.ions ≡ ions_in s t = count_less (λ (w : Stand). is_in_trap t w.place) (λ (w : Stand). is_at t i w.place) (replaced f) s.ions (λ w. splits.fewer w.place) in
    let before : ions_in s t ≡ length (l.chains t) = lies.counts t in
    let after : count_by (λ (w : Stand). is_in_trap t w.place) (map (replaced f) s.ions) ≡ length chain = omega arith in
    record {
      counts = λ u. elim (cases_Bool (eqb u t)) [
        | inl own ↦ rw (eqb-true u t own) (ap (count_by (λ w. is_in_trap t w.place)) is ∙ after ∙ ap length (sym (at_own t t chain l.chains (eqb_same t))))
        | inr other ↦ kept_count s z l u f is lies (splits.others_in u other) ∙ ap length (sym (at_other t u chain l.chains other))
      ];
      chains = λ u k. elim (cases_Bool (eqb u t)) [
        | inl own ↦ rw (eqb-true u t own) (elim (comes k) [
          | inl (j, same, reads) ↦ kept_chain s z l t k j f is lies same ∙ ap listed (sym reads)
          | inr (none, past) ↦ gone s z (λ w. w.qubit) (is_at t k) f is none ∙ ap listed (sym past)
        ] ∙ ap (λ c. listed (slice_get c k)) (sym (at_own t t chain l.chains (eqb_same t))))
        | inr other ↦ kept_chain s z l u k k f is lies (splits.others_at u k other) ∙ ap (λ c. listed (slice_get c k)) (sym (at_other t u chain l.chains other))
      ];
      riders = λ h. elim (cases_Bool (eqb h g)) [
        | inl own ↦ rw (eqb-true h g own) (came s z riding (λ w. (e, w.qubit)) (is_on_segment g) (is_at t i) (is_on_segment g) f (listed (Some (e, q))) is splits.onto
            (nothing_from riding (λ (w : Stand). is_on_segment g w.place) s.ions (lies.riders g ∙ ap listed free)) (λ w here. ap (λ x. (x, w.qubit)) (splits.end w.place here))
            (viewed (λ w. w.qubit) (λ (r : Qubit). (e, r)) (filter (λ (w : Stand). is_at t i w.place) s.ions) (Some q) (lies.chains t i ∙ ap listed there))
            ∙ ap listed (sym (at_own g g (Some (e, q)) l.riders (eqb_same g))))
        | inr other ↦ kept_rider s z l h f is lies (splits.other_on h other) (splits.stays h) ∙ ap listed (sym (at_other g h (Some (e, q)) l.riders other))
      ];
      carries = λ j. kept_carry s z l j f is lies (splits.within j);
    }

-- ---- the two ends

abbrev pub off_left : ℕ → ℕ → SegEnd → ℕ → IonPlace → IonPlace
off_left t g e h place = cond (is_at t 0 place) (OnSegment g e h) (shifted_down t place)

abbrev pub off_right : ℕ → ℕ → ℕ → SegEnd → ℕ → IonPlace → IonPlace
off_right t i g e h place = cond (is_at t i place) (OnSegment g e h) place

-- tests of where an ion of a trap stands
both : (v t k i : ℕ) (P : Bool → Bool → Type 0) → (eqb v t ≡ true → eqb k i ≡ true → P true true) → (eqb v t ≡ true → eqb k i ≡ false → P true false) → (eqb v t ≡ false → P false (eqb k i)) → P (eqb v t) (eqb k i)
both v t k i P tt_case tf f = elim (cases_Bool (eqb v t)) [
  | inl own ↦ elim (cases_Bool (eqb k i)) [ inl at ↦ rw (own, at) (tt_case own at) | inr off ↦ rw (own, off) (tf own off) ]
  | inr other ↦ rw other (f other)
]

right_splits : (t i g h : ℕ) (e : SegEnd) → Splits t i g e (off_right t i g e h)
right_splits t i g h e = record {
  fewer = fewer;
  others_in = λ u other place. others_in u other place;
  others_at = λ u k other place. others_at u k other place;
  onto = onto;
  other_on = λ k other place. other_on k other place;
  stays = λ k place. stays k place;
  within = λ j place. within j place;
  end = end;
}
  where
    fewer : (place : IonPlace) → cond (is_in_trap t (off_right t i g e h place)) 1 0 + cond (is_at t i place) 1 0 ≡ cond (is_in_trap t place) 1 0
    fewer (InTrap v k) = elim (cases_Bool (eqb v t)) [ inl own ↦ elim (cases_Bool (eqb k i)) [ inl at ↦ simp (own, at) | inr off ↦ simp (own, off) ] | inr other ↦ simp other ]
    fewer (OnSegment s f heat) = refl
    fewer (InJunction j heat) = refl

    others_in : (u : ℕ) → eqb u t ≡ false → (place : IonPlace) → is_in_trap u (off_right t i g e h place) ≡ is_in_trap u place
    others_in u other (InTrap v k) = elim (cases_Bool (eqb v t)) [
      | inl own ↦ let apart : eqb v u ≡ false = grind (nat_tests, arith) in elim (cases_Bool (eqb k i)) [ inl at ↦ simp (own, at, apart) | inr off ↦ simp (own, off) ]
      | inr others ↦ simp others
    ]
    others_in u other (OnSegment s f heat) = refl
    others_in u other (InJunction j heat) = refl

    others_at : (u k : ℕ) → eqb u t ≡ false → (place : IonPlace) → is_at u k (off_right t i g e h place) ≡ is_at u k place
    others_at u k other (InTrap v n) = elim (cases_Bool (eqb v t)) [
      | inl own ↦ let apart : eqb v u ≡ false = grind (nat_tests, arith) in elim (cases_Bool (eqb n i)) [ inl at ↦ simp (own, at, apart) | inr off ↦ simp (own, off) ]
      | inr others ↦ simp others
    ]
    others_at u k other (OnSegment s f heat) = refl
    others_at u k other (InJunction j heat) = refl

    onto : (place : IonPlace) → is_on_segment g (off_right t i g e h place) ≡ (is_at t i place || is_on_segment g place)
    onto (InTrap v k) = elim (cases_Bool (eqb v t)) [ inl own ↦ elim (cases_Bool (eqb k i)) [ inl at ↦ simp (own, at) (eqb_same g) | inr off ↦ simp (own, off) ] | inr other ↦ simp other ]
    onto (OnSegment s f heat) = refl
    onto (InJunction j heat) = refl

    other_on : (k : ℕ) → eqb k g ≡ false → (place : IonPlace) → is_on_segment k (off_right t i g e h place) ≡ is_on_segment k place
    other_on k other (InTrap v n) = elim (cases_Bool (eqb v t)) [
      | inl own ↦ let apart : eqb g k ≡ false = grind (nat_tests, arith) in elim (cases_Bool (eqb n i)) [ inl at ↦ simp (own, at, apart) | inr off ↦ simp (own, off) ]
      | inr others ↦ simp others
    ]
    other_on k other (OnSegment s f heat) = refl
    other_on k other (InJunction j heat) = refl

    stays : (k : ℕ) (place : IonPlace) → is_on_segment k place ≡ true → off_right t i g e h place ≡ place
    stays k (InTrap v n) on = cc
    stays k (OnSegment s f heat) on = refl
    stays k (InJunction j heat) on = refl

    within : (j : ℕ) (place : IonPlace) → is_in_junction j (off_right t i g e h place) ≡ is_in_junction j place
    within j (InTrap v k) = elim (cases_Bool (eqb v t)) [ inl own ↦ elim (cases_Bool (eqb k i)) [ inl at ↦ simp (own, at) | inr off ↦ simp (own, off) ] | inr other ↦ simp other ]
    within j (OnSegment s f heat) = refl
    within j (InJunction n heat) = refl

    end : (place : IonPlace) → is_at t i place ≡ true → end_on (off_right t i g e h place) ≡ e
    end place at = simp at

left_splits : (t g h : ℕ) (e : SegEnd) → Splits t 0 g e (off_left t g e h)
left_splits t g h e = record {
  fewer = fewer;
  others_in = λ u other place. others_in u other place;
  others_at = λ u k other place. others_at u k other place;
  onto = onto;
  other_on = λ k other place. other_on k other place;
  stays = λ k place. stays k place;
  within = λ j place. within j place;
  end = end;
}
  where
    fewer : (place : IonPlace) → cond (is_in_trap t (off_left t g e h place)) 1 0 + cond (is_at t 0 place) 1 0 ≡ cond (is_in_trap t place) 1 0
    fewer (InTrap v k) = elim (cases_Bool (eqb v t)) [ inl own ↦ elim (cases_Bool (eqb k 0)) [ inl at ↦ simp (own, at) | inr off ↦ simp (own, off) ] | inr other ↦ simp other ]
    fewer (OnSegment s f heat) = refl
    fewer (InJunction j heat) = refl

    others_in : (u : ℕ) → eqb u t ≡ false → (place : IonPlace) → is_in_trap u (off_left t g e h place) ≡ is_in_trap u place
    others_in u other (InTrap v k) = elim (cases_Bool (eqb v t)) [
      | inl own ↦ let apart : eqb v u ≡ false = grind (nat_tests, arith) in elim (cases_Bool (eqb k 0)) [ inl at ↦ simp (own, at, apart) | inr off ↦ simp (own, off) ]
      | inr others ↦ simp others
    ]
    others_in u other (OnSegment s f heat) = refl
    others_in u other (InJunction j heat) = refl

    others_at : (u k : ℕ) → eqb u t ≡ false → (place : IonPlace) → is_at u k (off_left t g e h place) ≡ is_at u k place
    others_at u k other (InTrap v n) = elim (cases_Bool (eqb v t)) [
      | inl own ↦ let apart : eqb v u ≡ false = grind (nat_tests, arith) in elim (cases_Bool (eqb n 0)) [ inl at ↦ simp (own, at, apart) | inr off ↦ simp (own, off, apart) ]
      | inr others ↦ simp others
    ]
    others_at u k other (OnSegment s f heat) = refl
    others_at u k other (InJunction j heat) = refl

    onto : (place : IonPlace) → is_on_segment g (off_left t g e h place) ≡ (is_at t 0 place || is_on_segment g place)
    onto (InTrap v k) = elim (cases_Bool (eqb v t)) [ inl own ↦ elim (cases_Bool (eqb k 0)) [ inl at ↦ simp (own, at) (eqb_same g) | inr off ↦ simp (own, off) ] | inr other ↦ simp other ]
    onto (OnSegment s f heat) = refl
    onto (InJunction j heat) = refl

    other_on : (k : ℕ) → eqb k g ≡ false → (place : IonPlace) → is_on_segment k (off_left t g e h place) ≡ is_on_segment k place
    other_on k other (InTrap v n) = elim (cases_Bool (eqb v t)) [
      | inl own ↦ let apart : eqb g k ≡ false = grind (nat_tests, arith) in elim (cases_Bool (eqb n 0)) [ inl at ↦ simp (own, at, apart) | inr off ↦ simp (own, off) ]
      | inr others ↦ simp others
    ]
    other_on k other (OnSegment s f heat) = refl
    other_on k other (InJunction j heat) = refl

    stays : (k : ℕ) (place : IonPlace) → is_on_segment k place ≡ true → off_left t g e h place ≡ place
    stays k (InTrap v n) on = cc
    stays k (OnSegment s f heat) on = refl
    stays k (InJunction j heat) on = refl

    within : (j : ℕ) (place : IonPlace) → is_in_junction j (off_left t g e h place) ≡ is_in_junction j place
    within j (InTrap v k) = elim (cases_Bool (eqb v t)) [ inl own ↦ elim (cases_Bool (eqb k 0)) [ inl at ↦ simp (own, at) | inr off ↦ simp (own, off) ] | inr other ↦ simp other ]
    within j (OnSegment s f heat) = refl
    within j (InJunction n heat) = refl

    end : (place : IonPlace) → is_at t 0 place ≡ true → end_on (off_left t g e h place) ≡ e
    end place at = simp at

-- ---- where each index comes from

left_at : (t g h k : ℕ) (e : SegEnd) (place : IonPlace) → is_at t k (off_left t g e h place) ≡ is_at t (k + 1) place
left_at t g h k e (InTrap v n) = elim (cases_Bool (eqb v t)) [
  | inl own ↦ elim (cases_Bool (eqb n 0)) [
    | inl at ↦ let late : eqb n (k + 1) ≡ false = grind (nat_tests, arith) in simp (own, at, late)
    | inr off ↦ let next : eqb (n - 1) k ≡ eqb n (k + 1) = grind (nat_tests, arith) in simp (own, off) next
  ]
  | inr other ↦ simp other
]
left_at t g h k e (OnSegment s f heat) = refl
left_at t g h k e (InJunction j heat) = refl

left_comes : (t g h : ℕ) (e : SegEnd) (q : Qubit) (rest : List Qubit) (k : ℕ) → Comes t (off_left t g e h) (q ∷ rest) rest k
left_comes t g h e q rest k = inl (k + 1, left_at t g h k e, next k)
  where
    next : (k : ℕ) → slice_get rest k ≡ slice_get (q ∷ rest) (k + 1)
    next k = rw (add-one k) refl

right_at : (t i g h k : ℕ) (e : SegEnd) (place : IonPlace) → eqb k i ≡ false → is_at t k (off_right t i g e h place) ≡ is_at t k place
right_at t i g h k e (InTrap v n) apart = elim (cases_Bool (eqb v t)) [
  | inl own ↦ elim (cases_Bool (eqb n i)) [
    | inl at ↦ let off : eqb n k ≡ false = grind (nat_tests, arith) in simp (own, at, off)
    | inr off ↦ simp (own, off)
  ]
  | inr other ↦ simp other
]
right_at t i g h k e (OnSegment s f heat) apart = refl
right_at t i g h k e (InJunction j heat) apart = refl

right_gone : (t i g h : ℕ) (e : SegEnd) (place : IonPlace) → is_at t i (off_right t i g e h place) ≡ false
right_gone t i g h e (InTrap v n) = elim (cases_Bool (eqb v t)) [
  | inl own ↦ elim (cases_Bool (eqb n i)) [ inl at ↦ simp (own, at) | inr off ↦ simp (own, off) ]
  | inr other ↦ simp other
]
right_gone t i g h e (OnSegment s f heat) = refl
right_gone t i g h e (InJunction j heat) = refl

pub get_past : {X : Type 0} (xs : List X) → slice_get xs (length xs) ≡ None
get_past [] = refl
get_past (x ∷ xs) = get_past xs

pub get_before : {X : Type 0} (xs : List X) (y : X) (k : ℕ) → eqb k (length xs) ≡ false → slice_get (xs ++ y ∷ []) k ≡ slice_get xs k
get_before [] y zero apart = cc
get_before [] y (suc k) apart = refl
get_before (x ∷ xs) y zero apart = refl
get_before (x ∷ xs) y (suc k) apart = get_before xs y k (grind (nat_tests, arith))

pub get_last : {X : Type 0} (xs : List X) (y : X) → slice_get (xs ++ y ∷ []) (length xs) ≡ Some y
get_last [] y = refl
get_last (x ∷ xs) y = get_last xs y

right_comes : (t g h : ℕ) (e : SegEnd) (q : Qubit) (rest : List Qubit) (k : ℕ) → Comes t (off_right t (length rest) g e h) (rest ++ q ∷ []) rest k
right_comes t g h e q rest k = elim (cases_Bool (eqb k (length rest))) [
  | inl last ↦ inr (rw (eqb-true k (length rest) last) (λ place. right_gone t (length rest) g h e place), rw (eqb-true k (length rest) last) (get_past rest))
  | inr early ↦ inl (k, (λ place. right_at t (length rest) g h k e place early), sym (get_before rest q k early))
]

pub lies_split_off : (s z : State) (l : Layout) (t g h : ℕ) (e : SegEnd) (end : End) (q : Qubit) (rest : List Qubit) → z.ions ≡ map (replaced (split_place t (ions_in s t) end (OnSegment g e h))) s.ions
    → Lies s l → l.chains t ≡ joined end q rest → l.riders g ≡ None
    → Lies z (record l { chains = with_at t rest l.chains; riders = with_at g (Some (e, q)) l.riders })
lies_split_off s z l t g h e Left q rest is lies chain free = lies_split s z l t 0 g e q (off_left t g e h) rest is (left_splits t g h e)
    (λ k. rw chain (left_comes t g h e q rest k)) lies (rw chain refl) (rw chain (length_next rest)) free
  where
    length_next : (rest : List Qubit) → length rest + 1 ≡ suc (length rest)
    length_next rest = omega arith
lies_split_off s z l t g h e Right q rest is lies chain free =
    let long : ions_in s t ≡ length rest + 1 = lies.counts t ∙ ap length chain ∙ length-append rest (q ∷ []) in
    let index : ions_in s t - 1 ≡ length rest = omega arith in
    let is' : z.ions ≡ map (replaced (off_right t (length rest) g e h)) s.ions = is ∙ ap (λ i. map (replaced (off_right t i g e h)) s.ions) index in
    lies_split s z l t (length rest) g e q (off_right t (length rest) g e h) rest is' (right_splits t (length rest) g h e)
    (λ k. rw chain (right_comes t g h e q rest k)) lies (rw chain (get_last rest q)) (rw chain (sym (length-append rest (q ∷ [])))) free
