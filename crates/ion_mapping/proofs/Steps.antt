-- Steps of loops over what is left of a list, and numbers that are taken one after another.
use Rattle.std.proofs.Common.{◌≡◌, ℕ, zero, suc, ◌+◌, ◌<◌, ◌≤◌, Bool, true, false, eqb, not, ◌||◌, ◌&&◌, List, [], ◌∷◌, ◌++◌, map, length, drop, refl, sym, ◌∙◌, ap, subst, arith, Some, inl, inr, ◌⊎◌, append_assoc, append-nil, drop-cons, ◌-◌}
use Rattle.std.proofs.Math.Seq.{drop-nil}
use Rattle.std.specs.Prelude.{◌==◌, filter, slice_get}
use Rattle.std.specs.List.{All, range_with_len}
use Rattle.std.proofs.lemmas.Bool.{cases_Bool, eqb-true, eq-eqb}
use Rattle.std.proofs.lemmas.Option.{slice_get_within, get_or_from_slice_get}
use Rattle.std.proofs.lemmas.Bool.Decides.{nat_tests}
use Rattle.qccd_base.specs.Names.{ion}
use Rattle.qccd_base.specs.declared.names.Ion.{Ion}
use Rattle.qccd_circuit.specs.Item.{ItemData}
use Rattle.qccd_circuit.specs.Circuit.{CircuitData, IsCircuit, IsWithin}
use Rattle.ion_mapping.specs.Placement.{by_use, firsts, uses}
use Rattle.ion_mapping.specs.Taking.{has, with_number, with_numbers}

-- the list from a place on begins with what stands there
pub drop_there : {X : Type 0} (xs : List X) (i : ℕ) (x : X) → slice_get xs i ≡ Some x → drop i xs ≡ x ∷ drop (i + 1) xs
drop_there xs i x is =
    let next : suc i ≡ i + 1 = omega arith in
    drop-cons xs i x (slice_get_within xs i x is) ∙ ap (λ y. y ∷ drop (suc i) xs) (get_or_from_slice_get xs i x x is) ∙ ap (λ k. x ∷ drop k xs) next

-- and there is nothing past its end
pub drop_past : {X : Type 0} (i : ℕ) (xs : List X) → length xs ≤ i → drop i xs ≡ []
drop_past i [] past = drop-nil i
drop_past zero (x ∷ xs) past = absurd (omega arith)
drop_past (suc i) (x ∷ xs) past = drop_past i xs (omega arith)

-- ---- what is taken

pub with_numbers-append : (taken xs ys : List ℕ) → with_numbers taken (xs ++ ys) ≡ with_numbers (with_numbers taken xs) ys
with_numbers-append taken [] ys = refl
with_numbers-append taken (x ∷ xs) ys = with_numbers-append (with_number taken x) xs ys

has-append : (xs ys : List ℕ) (k : ℕ) → has (xs ++ ys) k ≡ (has xs k || has ys k)
has-append [] ys k = refl
has-append (x ∷ xs) ys k = elim (cases_Bool (eqb x k)) [ inl is ↦ rw is refl | inr not_x ↦ rw not_x (has-append xs ys k) ]

-- one test after another
filter_twice : (p q r : ℕ → Bool) (xs : List ℕ) → ((k : ℕ) → (q k && p k) ≡ r k) → filter p (filter q xs) ≡ filter r xs
filter_twice p q r [] both = refl
filter_twice p q r (x ∷ xs) both = elim (cases_Bool (q x)) [
  | inl is ↦ elim (cases_Bool (p x)) [
    | inl too ↦ let here : r x ≡ true = sym (both x) ∙ rw (is, too) refl in rw (is, too, here) (ap (λ rest. x ∷ rest) (filter_twice p q r xs both))
    | inr not_p ↦ let here : r x ≡ false = sym (both x) ∙ rw (is, not_p) refl in rw (is, not_p, here) (filter_twice p q r xs both)
  ]
  | inr not_q ↦ let here : r x ≡ false = sym (both x) ∙ rw not_q refl in rw (not_q, here) (filter_twice p q r xs both)
]

-- the taken ones, and of the first ones among the others those that were not taken
taken_then_firsts : (ks taken : List ℕ) → with_numbers taken ks ≡ taken ++ filter (λ n. not (has taken n)) (firsts ks)
taken_then_firsts [] taken = sym (append-nil taken)
taken_then_firsts (k ∷ ks) taken = elim (cases_Bool (has taken k)) [
  | inl before ↦ rw before (taken_then_firsts ks taken ∙ ap (λ rest. taken ++ rest)
      (sym (filter_twice (λ n. not (has taken n)) (λ n. not (n == k)) (λ n. not (has taken n)) (firsts ks) (λ n. skipped n before))))
  | inr new ↦ rw new (taken_then_firsts ks (taken ++ k ∷ []) ∙ append_assoc taken (k ∷ []) (filter (λ n. not (has (taken ++ k ∷ []) n)) (firsts ks))
      ∙ ap (λ rest. taken ++ k ∷ rest) (sym (filter_twice (λ n. not (has taken n)) (λ n. not (n == k)) (λ n. not (has (taken ++ k ∷ []) n)) (firsts ks) one_more)))
]
  where
    skipped : (n : ℕ) → has taken k ≡ true → (not (n == k) && not (has taken n)) ≡ not (has taken n)
    skipped n before = elim (cases_Bool (eqb n k)) [
      | inl is ↦ let there : has taken n ≡ true = subst (λ i. has taken i ≡ true) (sym (eqb-true n k is)) before in rw (is, there) refl
      | inr other ↦ rw other refl
    ]

    with_false : (b : Bool) → (b && false) ≡ false
    with_false true = refl
    with_false false = refl

    same_test : (n : ℕ) → (eqb n k ≡ true) ⊎ (eqb n k ≡ false) → (not (n == k) && true) ≡ not ((k == n) || false)
    same_test n (inl is) = let back : eqb k n ≡ true = eq-eqb k n (sym (eqb-true n k is)) in rw (is, back) refl
    same_test n (inr other) = let back : eqb k n ≡ false = grind (nat_tests, arith) in rw (other, back) refl

    one_more : (n : ℕ) → (not (n == k) && not (has taken n)) ≡ not (has (taken ++ k ∷ []) n)
    one_more n = elim (cases_Bool (has taken n)) [
      | inl before ↦ rw (has-append taken (k ∷ []) n, before) (with_false (not (n == k)))
      | inr new ↦ rw (has-append taken (k ∷ []) n, new) (same_test n (cases_Bool (eqb n k)))
    ]

pub taken_firsts : (ks : List ℕ) → with_numbers [] ks ≡ firsts ks
taken_firsts ks = taken_then_firsts ks [] ∙ all_of (firsts ks)
  where
    all_of : (xs : List ℕ) → filter (λ n. not false) xs ≡ xs
    all_of [] = refl
    all_of (x ∷ xs) = ap (λ rest. x ∷ rest) (all_of xs)

-- ---- the qubits of items, and then all numbers

pub small_qubits : (c : CircuitData) (i : ℕ) (item : ItemData) → IsCircuit c → slice_get c.items i ≡ Some item → All (λ q. q.0 < 256) item.qubits
small_qubits c i item circuit is = λ k q there.
    let within : IsWithin c.qubits c.bits item = subst (IsWithin c.qubits c.bits) (get_or_from_slice_get c.items i item item is) (circuit.within i item (slice_get_within c.items i item is)) in
    omega (arith, within.qubits_below k q there, circuit.few_qubits)

pub used_taken : (c : CircuitData) (taken : List ℕ) → taken ≡ with_numbers [] (uses c.items) → with_numbers taken (range_with_len 0 (c.qubits - 0)) ≡ with_numbers [] (uses c.items ++ range_with_len 0 c.qubits)
used_taken c taken whole =
    let rest : c.qubits - 0 ≡ c.qubits = omega arith in
    ap (λ n. with_numbers taken (range_with_len 0 n)) rest ∙ ap (λ ns. with_numbers ns (range_with_len 0 c.qubits)) whole ∙ sym (with_numbers-append [] (uses c.items) (range_with_len 0 c.qubits))

pub number_taken : (n k : ℕ) (taken new whole : List ℕ) → k < n → new ≡ with_number taken k → with_numbers taken (range_with_len k (n - k)) ≡ whole → with_numbers new (range_with_len (k + 1) (n - (k + 1))) ≡ whole
number_taken n k taken new whole less more all =
    let next : n - k ≡ suc (n - (k + 1)) = omega arith in
    ap (λ ns. with_numbers ns (range_with_len (k + 1) (n - (k + 1)))) more ∙ ap (λ m. with_numbers taken (range_with_len k m)) (sym next) ∙ all

pub all_taken : (c : CircuitData) (k : ℕ) (taken : List ℕ) (ions : List Ion) → c.qubits ≤ k → with_numbers taken (range_with_len k (c.qubits - k)) ≡ with_numbers [] (uses c.items ++ range_with_len 0 c.qubits) → map (λ x. x.0) ions ≡ taken
    → ions ≡ map ion (by_use c)
all_taken c k taken ions past all numbers =
    let none : c.qubits - k ≡ 0 = omega arith in
    let whole : taken ≡ firsts (uses c.items ++ range_with_len 0 c.qubits) = ap (λ n. with_numbers taken (range_with_len k n)) (sym none) ∙ all ∙ taken_firsts (uses c.items ++ range_with_len 0 c.qubits) in
    sym (ions_again ions) ∙ ap (map ion) (numbers ∙ whole)
  where
    ions_again : (xs : List Ion) → map ion (map (λ x. x.0) xs) ≡ xs
    ions_again [] = refl
    ions_again (x ∷ xs) = ap (λ ys. x ∷ ys) (ions_again xs)
