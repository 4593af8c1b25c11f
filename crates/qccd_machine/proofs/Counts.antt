-- Ends of segments, counted.
use Rattle.std.proofs.Common.{◌≡◌, ℕ, zero, suc, ◌+◌, ◌<◌, ◌≤◌, ◌⊎◌, inl, inr, Bool, true, false, cond, List, [], ◌∷◌, Some, refl, sym, ◌∙◌, ap, subst, arith}
use Rattle.std.specs.Prelude.{count_by, flat_map, slice_get}
use Rattle.std.proofs.lemmas.Bool.{cases_Bool, false_from_ne_true}
use Rattle.std.proofs.lemmas.List.Sums.{sum_by-cons}
use Rattle.std.proofs.lemmas.Option.{same_Some}
use Rattle.qccd_machine.specs.declared.place.Place.{Place}

-- what two tests and the rest add up to
one_at_most : (a b : Bool) (rest all : ℕ) → all ≡ cond a 1 0 + (cond b 1 0 + rest)
    → (((a ≡ false) × (b ≡ false) × (rest ≤ 1)) ⊎ (((b ≡ false) × (rest ≡ 0)) ⊎ ((a ≡ false) × (rest ≡ 0)))) → all ≤ 1
one_at_most true true rest all is h = elim h [ inl x ↦ cc | inr y ↦ elim y [ inl z ↦ cc | inr z ↦ cc ] ]
one_at_most true false rest all is h = elim h [ inl x ↦ cc | inr y ↦ elim y [ inl z ↦ omega arith | inr z ↦ cc ] ]
one_at_most false true rest all is h = elim h [ inl x ↦ cc | inr y ↦ elim y [ inl z ↦ cc | inr z ↦ omega arith ] ]
one_at_most false false rest all is h = elim h [ inl x ↦ omega arith | inr y ↦ elim y [ inl z ↦ omega arith | inr z ↦ omega arith ] ]

two_count : (a b : Bool) (rest all : ℕ) → all ≡ cond a 1 0 + (cond b 1 0 + rest) → (a ≡ true) ⊎ (b ≡ true) → 1 ≤ rest → 2 ≤ all
two_count true b rest all is h more = omega arith
two_count false true rest all is h more = omega arith
two_count false false rest all is h more = elim h [ inl x ↦ cc | inr x ↦ cc ]

one_counts : (a b : Bool) (rest all : ℕ) → all ≡ cond a 1 0 + (cond b 1 0 + rest) → (a ≡ true) ⊎ (b ≡ true) → 1 ≤ all
one_counts true b rest all is h = omega arith
one_counts false true rest all is h = omega arith
one_counts false false rest all is h = elim h [ inl x ↦ cc | inr x ↦ cc ]

abbrev pub both : Place × Place → List Place
both ends = ends.0 ∷ ends.1 ∷ []

-- one of the ends passes the test
abbrev pub HasOne : (Place → Bool) → Place × Place → Type 0
HasOne p ends = (p ends.0 ≡ true) ⊎ (p ends.1 ≡ true)

-- a segment more at the front
count-cons : (p : Place → Bool) (ends : Place × Place) (rest : List (Place × Place)) → count_by p (flat_map both (ends ∷ rest)) ≡ cond (p ends.0) 1 0 + (cond (p ends.1) 1 0 + count_by p (flat_map both rest))
count-cons p ends rest =
    sum_by-cons (λ x. cond (p x) 1 0) ends.0 (ends.1 ∷ flat_map both rest)
    ∙ ap (λ n. cond (p ends.0) 1 0 + n) (sum_by-cons (λ x. cond (p x) 1 0) ends.1 (flat_map both rest))

-- no end passes
pub count_none : (p : Place → Bool) (segments : List (Place × Place)) → ((k : ℕ) (ends : Place × Place) → slice_get segments k ≡ Some ends → HasOne p ends → ⊥)
    → count_by p (flat_map both segments) ≡ 0
count_none p [] none = refl
count_none p (ends ∷ rest) none =
    let first : p ends.0 ≡ false = false_from_ne_true (p ends.0) (λ h. none 0 ends refl (inl h)) in
    let second : p ends.1 ≡ false = false_from_ne_true (p ends.1) (λ h. none 0 ends refl (inr h)) in
    let after : count_by p (flat_map both rest) ≡ 0 = count_none p rest (λ k others is. none (suc k) others is) in
    count-cons p ends rest ∙ ap (λ b. cond b 1 0 + (cond (p ends.1) 1 0 + count_by p (flat_map both rest))) first
    ∙ ap (λ b. 0 + (cond b 1 0 + count_by p (flat_map both rest))) second ∙ ap (λ n. 0 + (0 + n)) after

-- where no segment passes at both ends, and no two segments pass, one end at most passes
pub count_at_most_one : (p : Place → Bool) (segments : List (Place × Place))
    → ((k : ℕ) (ends : Place × Place) → slice_get segments k ≡ Some ends → p ends.0 ≡ true → p ends.1 ≡ true → ⊥)
    → ((i k : ℕ) (ends others : Place × Place) → i < k → slice_get segments i ≡ Some ends → slice_get segments k ≡ Some others → HasOne p ends → HasOne p others → ⊥)
    → count_by p (flat_map both segments) ≤ 1
count_at_most_one p [] apart free = omega arith
count_at_most_one p (ends ∷ rest) apart free =
    elim (cases_Bool (p ends.0)) [
      | inl first ↦
          let second : p ends.1 ≡ false = false_from_ne_true (p ends.1) (λ h. apart 0 ends refl first h) in
          let after : count_by p (flat_map both rest) ≡ 0 = count_none p rest (λ k others is has. free 0 (suc k) ends others (omega arith) refl is (inl first) has) in
          one_at_most (p ends.0) (p ends.1) (count_by p (flat_map both rest)) (count_by p (flat_map both (ends ∷ rest))) (count-cons p ends rest) (inr (inl (second, after)))
      | inr first ↦ elim (cases_Bool (p ends.1)) [
        | inl second ↦
            let after : count_by p (flat_map both rest) ≡ 0 = count_none p rest (λ k others is has. free 0 (suc k) ends others (omega arith) refl is (inr second) has) in
            one_at_most (p ends.0) (p ends.1) (count_by p (flat_map both rest)) (count_by p (flat_map both (ends ∷ rest))) (count-cons p ends rest) (inr (inr (first, after)))
        | inr second ↦
            let after : count_by p (flat_map both rest) ≤ 1 = count_at_most_one p rest (λ k others is. apart (suc k) others is) (λ i k a b before is_a is_b. free (suc i) (suc k) a b (omega arith) is_a is_b) in
            one_at_most (p ends.0) (p ends.1) (count_by p (flat_map both rest)) (count_by p (flat_map both (ends ∷ rest))) (count-cons p ends rest) (inl (first, second, after))
      ]
    ]

-- a segment with an end that passes counts
pub count_at_least_one : (p : Place → Bool) (segments : List (Place × Place)) (k : ℕ) (ends : Place × Place) → slice_get segments k ≡ Some ends → HasOne p ends
    → 1 ≤ count_by p (flat_map both segments)
count_at_least_one p [] k ends is has = cc
count_at_least_one p (first ∷ rest) zero ends is has =
    let e : first ≡ ends = same_Some first ends is in
    one_counts (p first.0) (p first.1) (count_by p (flat_map both rest)) (count_by p (flat_map both (first ∷ rest))) (count-cons p first rest) (subst (HasOne p) (sym e) has)
count_at_least_one p (first ∷ rest) (suc k) ends is has =
    omega (arith, count-cons p first rest, count_at_least_one p rest k ends is has)

-- two segments do twice
pub count_at_least_two : (p : Place → Bool) (segments : List (Place × Place)) (i k : ℕ) (ends others : Place × Place) → i < k → slice_get segments i ≡ Some ends → slice_get segments k ≡ Some others → HasOne p ends → HasOne p others
    → 2 ≤ count_by p (flat_map both segments)
count_at_least_two p segments i zero ends others before is is' has has' = absurd (omega arith)
count_at_least_two p [] i (suc k) ends others before is is' has has' = cc
count_at_least_two p (first ∷ rest) zero (suc k) ends others before is is' has has' =
    let e : first ≡ ends = same_Some first ends is in
    two_count (p first.0) (p first.1) (count_by p (flat_map both rest)) (count_by p (flat_map both (first ∷ rest))) (count-cons p first rest) (subst (HasOne p) (sym e) has) (count_at_least_one p rest k others is' has')
count_at_least_two p (first ∷ rest) (suc i) (suc k) ends others before is is' has has' =
    omega (arith, count-cons p first rest, count_at_least_two p rest i k ends others (omega arith) is is' has has')
