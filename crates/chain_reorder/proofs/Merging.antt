-- Onto the end of a chain.
use Rattle.std.proofs.Common.{◌≡◌, ℕ, zero, suc, ◌+◌, Bool, true, false, cond, eqb, ◌||◌, List, [], ◌∷◌, ◌++◌, map, length, refl, sym, ◌∙◌, ap, arith, Some, None, inl, inr, ◌⊎◌, add-one, length-append}
use Rattle.std.specs.Prelude.{count_by, filter, slice_get}
use Rattle.std.proofs.lemmas.Bool.{cases_Bool, eqb-true}
use Rattle.std.proofs.lemmas.Bool.Decides.{nat_tests}
use Rattle.qccd_base.specs.declared.names.Qubit.{Qubit}
use Rattle.qccd_base.specs.declared.names.SegEnd.{SegEnd}
use Rattle.qccd_base.specs.declared.names.End.{End}
use Rattle.qccd_base.specs.declared.names.End.TheVariants.{Left, Right}
use Rattle.op_table.specs.State.{IonPlace, InTrap, OnSegment, InJunction, Stand, State, is_in_trap, is_at, is_on_segment, is_in_junction, ions_in}
use Rattle.op_table.specs.Step.{merge_place, shifted_up}
use Rattle.chain_reorder.specs.Layout.{Layout, Lies, listed, with_at, riding, joined}
use Rattle.chain_reorder.proofs.Lists.{count_more, nothing_from, counted, filter_none}
use Rattle.chain_reorder.proofs.Steps.{at_own, at_other, eqb_same}
use Rattle.chain_reorder.proofs.Paths.{replaced, kept_count, kept_chain, kept_rider, kept_carry, gone, came, viewed}
use Rattle.chain_reorder.proofs.Ends.{get_past, get_before, get_last}

-- index k of the new chain is index j of the old one, or it is the ion of the segment
abbrev pub Arrives : State → ℕ → ℕ → Qubit → (IonPlace → IonPlace) → List Qubit → List Qubit → ℕ → Type 0
Arrives s t g q f old new k = ((j : ℕ) × ((place : IonPlace) → is_at t k (f place) ≡ is_at t j place) × (slice_get new k ≡ slice_get old j))
    ⊎ ((r : IonPlace → Bool) × (filter (λ (w : Stand). r w.place) s.ions ≡ []) × ((place : IonPlace) → is_at t k (f place) ≡ (is_on_segment g place || r place)) × (slice_get new k ≡ Some q))

-- a change of places by which the ion of segment g goes into trap t
pub record Merges (t g : ℕ) (f : IonPlace → IonPlace) : Type 0 where
  pub more : (place : IonPlace) → cond (is_in_trap t (f place)) 1 0 ≡ cond (is_in_trap t place) 1 0 + cond (is_on_segment g place) 1 0
  pub others_in : (u : ℕ) → eqb u t ≡ false → (place : IonPlace) → is_in_trap u (f place) ≡ is_in_trap u place
  pub others_at : (u k : ℕ) → eqb u t ≡ false → (place : IonPlace) → is_at u k (f place) ≡ is_at u k place
  pub off : (place : IonPlace) → is_on_segment g (f place) ≡ false
  pub other_on : (h : ℕ) → eqb h g ≡ false → (place : IonPlace) → is_on_segment h (f place) ≡ is_on_segment h place
  pub stays : (h : ℕ) → eqb h g ≡ false → (place : IonPlace) → is_on_segment h place ≡ true → f place ≡ place
  pub within : (j : ℕ) (place : IonPlace) → is_in_junction j (f place) ≡ is_in_junction j place

pub lies_merged : (s z : State) (l : Layout) (t g : ℕ) (e : SegEnd) (q : Qubit) (f : IonPlace → IonPlace) (chain : List Qubit) → z.ions ≡ map (replaced f) s.ions → Merges t g f
    → ((k : ℕ) → Arrives s t g q f (l.chains t) chain k) → Lies s l → l.riders g ≡ Some (e, q) → length chain ≡ length (l.chains t) + 1
    → Lies z (record l { chains = with_at t chain l.chains; riders = with_at g None l.riders })
lies_merged s z l t g e q f chain is merges arrives lies on longer =
    let one : count_by (λ (w : Stand). is_on_segment g w.place) s.ions ≡ 1 = counted riding (λ (w : Stand). is_on_segment g w.place) s.ions (Some (e, q)) (lies.riders g ∙ ap listed on) in
    let more : count_by (λ (w : Stand). is_in_trap t w.place) (map (replaced f) s.ions) ≡ ions_in s t + count_by (λ (w : Stand). is_on_segment g w.place) s.ions = count_more (λ (w : Stand). is_in_trap t w.place) (λ (w : Stand). is_on_segment g w.place) (replaced f) s.ions (λ w. merges.more w.place) in
    let before : ions_in s t ≡ length (l.chains t) = lies.counts t in
    let after : count_by (λ (w : Stand). is_in_trap t w.place) (map (replaced f) s.ions) ≡ length chain = omega arith in
    record {
      counts = λ u. elim (cases_Bool (eqb u t)) [
        | inl own ↦ rw (eqb-true u t own) (ap (count_by (λ w. is_in_trap t w.place)) is ∙ after ∙ ap length (sym (at_own t t chain l.chains (eqb_same t))))
        | inr other ↦ kept_count s z l u f is lies (merges.others_in u other) ∙ ap length (sym (at_other t u chain l.chains other))
      ];
      chains = λ u k. elim (cases_Bool (eqb u t)) [
        | inl own ↦ rw (eqb-true u t own) (elim (arrives k) [
          | inl (j, same, reads) ↦ kept_chain s z l t k j f is lies same ∙ ap listed (sym reads)
          | inr (r, nothing, test, reads) ↦ came s z (λ w. w.qubit) (λ w. w.qubit) (is_at t k) (is_on_segment g) r f (listed (Some q)) is test nothing (λ w here. refl)
              (viewed riding (λ (x : SegEnd × Qubit). x.1) (filter (λ (w : Stand). is_on_segment g w.place) s.ions) (Some (e, q)) (lies.riders g ∙ ap listed on)) ∙ ap listed (sym reads)
        ] ∙ ap (λ c. listed (slice_get c k)) (sym (at_own t t chain l.chains (eqb_same t))))
        | inr other ↦ kept_chain s z l u k k f is lies (merges.others_at u k other) ∙ ap (λ c. listed (slice_get c k)) (sym (at_other t u chain l.chains other))
      ];
      riders = λ h. elim (cases_Bool (eqb h g)) [
        | inl own ↦ rw (eqb-true h g own) (gone s z riding (is_on_segment g) f is merges.off ∙ ap listed (sym (at_own g g None l.riders (eqb_same g))))
        | inr other ↦ kept_rider s z l h f is lies (merges.other_on h other) (merges.stays h other) ∙ ap listed (sym (at_other g h None l.riders other))
      ];
      carries = λ j. kept_carry s z l j f is lies (merges.within j);
    }

abbrev pub onto_left : ℕ → ℕ → IonPlace → IonPlace
onto_left t g place = cond (is_on_segment g place) (InTrap t 0) (shifted_up t place)

abbrev pub onto_right : ℕ → ℕ → ℕ → IonPlace → IonPlace
onto_right t n g place = cond (is_on_segment g place) (InTrap t n) place

right_merges : (t n g : ℕ) → Merges t g (onto_right t n g)
right_merges t n g = record {
  more = more;
  others_in = λ u other place. others_in u other place;
  others_at = λ u k other place. others_at u k other place;
  off = off;
  other_on = λ h other place. other_on h other place;
  stays = λ h other place. stays h other place;
  within = λ j place. within j place;
}
  where
    more : (place : IonPlace) → cond (is_in_trap t (onto_right t n g place)) 1 0 ≡ cond (is_in_trap t place) 1 0 + cond (is_on_segment g place) 1 0
    more (InTrap v k) = omega arith
    more (OnSegment s f heat) = elim (cases_Bool (eqb s g)) [ inl own ↦ simp (own, eqb_same t) | inr other ↦ simp other ]
    more (InJunction j heat) = refl

    others_in : (u : ℕ) → eqb u t ≡ false → (place : IonPlace) → is_in_trap u (onto_right t n g place) ≡ is_in_trap u place
    others_in u other (InTrap v k) = refl
    others_in u other (OnSegment s f heat) = let apart : eqb t u ≡ false = grind (nat_tests, arith) in elim (cases_Bool (eqb s g)) [ inl own ↦ simp (own, apart) | inr others ↦ simp others ]
    others_in u other (InJunction j heat) = refl

    others_at : (u k : ℕ) → eqb u t ≡ false → (place : IonPlace) → is_at u k (onto_right t n g place) ≡ is_at u k place
    others_at u k other (InTrap v i) = refl
    others_at u k other (OnSegment s f heat) = let apart : eqb t u ≡ false = grind (nat_tests, arith) in elim (cases_Bool (eqb s g)) [ inl own ↦ simp (own, apart) | inr others ↦ simp others ]
    others_at u k other (InJunction j heat) = refl

    off : (place : IonPlace) → is_on_segment g (onto_right t n g place) ≡ false
    off (InTrap v k) = refl
    off (OnSegment s f heat) = elim (cases_Bool (eqb s g)) [ inl own ↦ simp own | inr other ↦ simp other ]
    off (InJunction j heat) = refl

    other_on : (h : ℕ) → eqb h g ≡ false → (place : IonPlace) → is_on_segment h (onto_right t n g place) ≡ is_on_segment h place
    other_on h other (InTrap v k) = refl
    other_on h other (OnSegment s f heat) = elim (cases_Bool (eqb s g)) [
      | inl own ↦ let apart : eqb s h ≡ false = grind (nat_tests, arith) in simp (own, apart)
      | inr others ↦ simp others
    ]
    other_on h other (InJunction j heat) = refl

    stays : (h : ℕ) → eqb h g ≡ false → (place : IonPlace) → is_on_segment h place ≡ true → onto_right t n g place ≡ place
    stays h other (InTrap v k) on = refl
    stays h other (OnSegment s f heat) on = let there : eqb s h ≡ true = on in let apart : eqb s g ≡ false = grind (nat_tests, arith) in simp apart
    stays h other (InJunction j heat) on = refl

    within : (j : ℕ) (place : IonPlace) → is_in_junction j (onto_right t n g place) ≡ is_in_junction j place
    within j (InTrap v k) = refl
    within j (OnSegment s f heat) = elim (cases_Bool (eqb s g)) [ inl own ↦ simp own | inr other ↦ simp other ]
    within j (InJunction i heat) = refl

left_merges : (t g : ℕ) → Merges t g (onto_left t g)
left_merges t g = record {
  more = more;
  others_in = λ u other place. others_in u other place;
  others_at = λ u k other place. others_at u k other place;
  off = off;
  other_on = λ h other place. other_on h other place;
  stays = λ h other place. stays h other place;
  within = λ j place. within j place;
}
  where
    more : (place : IonPlace) → cond (is_in_trap t (onto_left t g place)) 1 0 ≡ cond (is_in_trap t place) 1 0 + cond (is_on_segment g place) 1 0
    more (InTrap v k) = elim (cases_Bool (eqb v t)) [ inl own ↦ simp own | inr other ↦ simp other ]
    more (OnSegment s f heat) = elim (cases_Bool (eqb s g)) [ inl own ↦ simp (own, eqb_same t) | inr other ↦ simp other ]
    more (InJunction j heat) = refl

    others_in : (u : ℕ) → eqb u t ≡ false → (place : IonPlace) → is_in_trap u (onto_left t g place) ≡ is_in_trap u place
    others_in u other (InTrap v k) = elim (cases_Bool (eqb v t)) [ inl own ↦ simp own | inr others ↦ simp others ]
    others_in u other (OnSegment s f heat) = let apart : eqb t u ≡ false = grind (nat_tests, arith) in elim (cases_Bool (eqb s g)) [ inl own ↦ simp (own, apart) | inr others ↦ simp others ]
    others_in u other (InJunction j heat) = refl

    others_at : (u k : ℕ) → eqb u t ≡ false → (place : IonPlace) → is_at u k (onto_left t g place) ≡ is_at u k place
    others_at u k other (InTrap v i) = elim (cases_Bool (eqb v t)) [ inl own ↦ let apart : eqb v u ≡ false = grind (nat_tests, arith) in simp (own, apart) | inr others ↦ simp others ]
    others_at u k other (OnSegment s f heat) = let apart : eqb t u ≡ false = grind (nat_tests, arith) in elim (cases_Bool (eqb s g)) [ inl own ↦ simp (own, apart) | inr others ↦ simp others ]
    others_at u k other (InJunction j heat) = refl

    off : (place : IonPlace) → is_on_segment g (onto_left t g place) ≡ false
    off (InTrap v k) = elim (cases_Bool (eqb v t)) [ inl own ↦ simp own | inr others ↦ simp others ]
    off (OnSegment s f heat) = elim (cases_Bool (eqb s g)) [ inl own ↦ simp own | inr other ↦ simp other ]
    off (InJunction j heat) = refl

    other_on : (h : ℕ) → eqb h g ≡ false → (place : IonPlace) → is_on_segment h (onto_left t g place) ≡ is_on_segment h place
    other_on h other (InTrap v k) = elim (cases_Bool (eqb v t)) [ inl own ↦ simp own | inr others ↦ simp others ]
    other_on h other (OnSegment s f heat) = elim (cases_Bool (eqb s g)) [
      | inl own ↦ let apart : eqb s h ≡ false = grind (nat_tests, arith) in simp (own, apart)
      | inr others ↦ simp others
    ]
    other_on h other (InJunction j heat) = refl

    stays : (h : ℕ) → eqb h g ≡ false → (place : IonPlace) → is_on_segment h place ≡ true → onto_left t g place ≡ place
    stays h other (InTrap v k) on = cc
    stays h other (OnSegment s f heat) on = let there : eqb s h ≡ true = on in let apart : eqb s g ≡ false = grind (nat_tests, arith) in simp apart
    stays h other (InJunction j heat) on = refl

    within : (j : ℕ) (place : IonPlace) → is_in_junction j (onto_left t g place) ≡ is_in_junction j place
    within j (InTrap v k) = elim (cases_Bool (eqb v t)) [ inl own ↦ simp own | inr others ↦ simp others ]
    within j (OnSegment s f heat) = elim (cases_Bool (eqb s g)) [ inl own ↦ simp own | inr other ↦ simp other ]
    within j (InJunction i heat) = refl

-- ---- where each index comes from

onto_left_first : (t g : ℕ) (place : IonPlace) → is_at t 0 (onto_left t g place) ≡ (is_on_segment g place || false)
onto_left_first t g (InTrap v n) = elim (cases_Bool (eqb v t)) [
  | inl own ↦ let late : eqb (n + 1) 0 ≡ false = grind (nat_tests, arith) in simp (own, late)
  | inr other ↦ simp other
]
onto_left_first t g (OnSegment s f heat) = elim (cases_Bool (eqb s g)) [ inl own ↦ simp (own, eqb_same t) | inr other ↦ simp other ]
onto_left_first t g (InJunction j heat) = refl

onto_left_later : (t g k : ℕ) (place : IonPlace) → is_at t (suc k) (onto_left t g place) ≡ is_at t k place
onto_left_later t g k (InTrap v n) = elim (cases_Bool (eqb v t)) [
  | inl own ↦ let next : eqb (n + 1) (suc k) ≡ eqb n k = grind (nat_tests, arith) in simp own next
  | inr other ↦ simp other
]
onto_left_later t g k (OnSegment s f heat) = elim (cases_Bool (eqb s g)) [
  | inl own ↦ let late : eqb 0 (suc k) ≡ false = grind (nat_tests, arith) in simp (own, late, eqb_same t)
  | inr other ↦ simp other
]
onto_left_later t g k (InJunction j heat) = refl

left_arrives : (s : State) (t g : ℕ) (q : Qubit) (chain : List Qubit) (k : ℕ) → Arrives s t g q (onto_left t g) chain (q ∷ chain) k
left_arrives s t g q chain zero = inr ((λ _. false), filter_none (λ (w : Stand). false) s.ions (λ _. refl), onto_left_first t g, refl)
left_arrives s t g q chain (suc k) = inl (k, onto_left_later t g k, refl)

onto_right_last : (t n g : ℕ) (place : IonPlace) → is_at t n (onto_right t n g place) ≡ (is_on_segment g place || is_at t n place)
onto_right_last t n g (InTrap v i) = refl
onto_right_last t n g (OnSegment s f heat) = elim (cases_Bool (eqb s g)) [ inl own ↦ simp (own, eqb_same t, eqb_same n) | inr other ↦ simp other ]
onto_right_last t n g (InJunction j heat) = refl

onto_right_early : (t n g k : ℕ) (place : IonPlace) → eqb k n ≡ false → is_at t k (onto_right t n g place) ≡ is_at t k place
onto_right_early t n g k (InTrap v i) apart = refl
onto_right_early t n g k (OnSegment s f heat) apart = let off : eqb n k ≡ false = grind (nat_tests, arith) in elim (cases_Bool (eqb s g)) [ inl own ↦ simp (own, off, eqb_same t) | inr other ↦ simp other ]
onto_right_early t n g k (InJunction j heat) apart = refl

right_arrives : (s : State) (l : Layout) (t g : ℕ) (q : Qubit) (k : ℕ) → Lies s l → Arrives s t g q (onto_right t (length (l.chains t)) g) (l.chains t) (l.chains t ++ q ∷ []) k
right_arrives s l t g q k lies = elim (cases_Bool (eqb k (length (l.chains t)))) [
  | inl last ↦ rw (eqb-true k (length (l.chains t)) last) (inr (
    is_at t (length (l.chains t)),
    nothing_from (λ (w : Stand). w.qubit) (λ (w : Stand). is_at t (length (l.chains t)) w.place) s.ions (lies.chains t (length (l.chains t)) ∙ ap listed (get_past (l.chains t))),
    onto_right_last t (length (l.chains t)) g,
    get_last (l.chains t) q,
  ))
  | inr early ↦ inl (k, (λ place. onto_right_early t (length (l.chains t)) g k place early), get_before (l.chains t) q k early)
]

pub lies_merged_onto : (s z : State) (l : Layout) (t g : ℕ) (e : SegEnd) (end : End) (q : Qubit) → z.ions ≡ map (replaced (merge_place g t (ions_in s t) end)) s.ions
    → Lies s l → l.riders g ≡ Some (e, q)
    → Lies z (record l { chains = with_at t (joined end q (l.chains t)) l.chains; riders = with_at g None l.riders })
lies_merged_onto s z l t g e Left q is lies on = lies_merged s z l t g e q (onto_left t g) (q ∷ l.chains t) is (left_merges t g) (left_arrives s t g q (l.chains t)) lies on (sym (add-one (length (l.chains t))))
lies_merged_onto s z l t g e Right q is lies on =
    let is' : z.ions ≡ map (replaced (onto_right t (length (l.chains t)) g)) s.ions = is ∙ ap (λ n. map (replaced (onto_right t n g)) s.ions) (lies.counts t) in
    lies_merged s z l t g e q (onto_right t (length (l.chains t)) g) (l.chains t ++ q ∷ []) is' (right_merges t (length (l.chains t)) g) (λ k. right_arrives s l t g q k lies) lies on (length-append (l.chains t) (q ∷ []))
