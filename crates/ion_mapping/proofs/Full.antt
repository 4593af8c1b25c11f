-- Once all qubits of a circuit are taken, the items that are left change nothing.
use Rattle.std.proofs.Common.{◌≡◌, ℕ, zero, suc, ◌+◌, ◌<◌, ◌≤◌, Bool, true, false, cond, eqb, ◌||◌, List, [], ◌∷◌, ◌++◌, map, length, take, drop, refl, sym, ◌∙◌, ap, subst, arith, Some, inl, inr, append-nil}
use Rattle.std.specs.Prelude.{count_by, slice_get}
use Rattle.std.proofs.Math.Seq.{take-suc}
use Rattle.std.proofs.lemmas.Bool.{cases_Bool, cases_lt, eq-eqb, or_right}
use Rattle.std.proofs.lemmas.Grind.{flat_map-append}
use Rattle.std.proofs.lemmas.List.{take-append-drop}
use Rattle.std.proofs.lemmas.Option.{slice_get_within, get_or_from_slice_get}
use Rattle.qccd_circuit.specs.Item.{ItemData}
use Rattle.qccd_circuit.specs.Circuit.{CircuitData, IsCircuit}
use Rattle.ion_mapping.specs.Placement.{uses}
use Rattle.ion_mapping.specs.Taking.{has, with_numbers}
use Rattle.ion_mapping.proofs.Firsts.{absent, all_within, firsts_once, has-append, is_within, times, times-cons, within_none, within_split}
use Rattle.ion_mapping.proofs.Steps.{taken_firsts, with_numbers-append}

-- ---- as many different numbers as there are leave none out

within_most : (xs : List ℕ) (a n : ℕ) → ((k : ℕ) → times xs k ≤ 1) → count_by (is_within a n) xs ≤ n
within_most xs a zero once = omega (arith, within_none a xs)
within_most xs a (suc n) once = omega (arith, within_split a n xs, once a, within_most xs (a + 1) n once)

within_full : (xs : List ℕ) (a n k : ℕ) → ((i : ℕ) → times xs i ≤ 1) → n ≤ count_by (is_within a n) xs → a ≤ k → k < a + n → times xs k ≡ 1
within_full xs a zero k once full low high = absurd (omega (arith, low, high))
within_full xs a (suc n) k once full low high = elim (cases_lt a k) [
  | inl later ↦ within_full xs (a + 1) n k once (omega (arith, full, within_split a n xs, once a)) (omega (arith, later)) (omega (arith, high))
  | inr past ↦
      let same : a ≡ k = omega (arith, low, past) in
      subst (λ i. times xs i ≡ 1) same (omega (arith, full, within_split a n xs, once a, within_most xs (a + 1) n once))
]

times_absent : (xs : List ℕ) (k : ℕ) → has xs k ≡ false → times xs k ≡ 0
times_absent [] k none = refl
times_absent (x ∷ xs) k none = elim (cases_Bool (eqb x k)) [
  | inl is ↦ absurd (cc (subst (λ b. (b || has xs k) ≡ false) is none))
  | inr other ↦
      let rest : has xs k ≡ false = subst (λ b. (b || has xs k) ≡ false) other none in
      let off : cond {A = ℕ} (eqb x k) 1 0 ≡ 0 = ap (λ b. cond {A = ℕ} b 1 0) other in
      omega (arith, off, times_absent xs k rest, times-cons x xs k)
]

-- ---- numbers that are taken already change nothing

with_numbers-taken : (taken ks : List ℕ) → ((k : ℕ) → has ks k ≡ true → has taken k ≡ true) → with_numbers taken ks ≡ taken
with_numbers-taken taken [] all = refl
with_numbers-taken taken (k ∷ ks) all =
    rw (all k (own k ks)) (with_numbers-taken taken ks (λ i there. all i (later i k ks there)))
  where
    own : (k : ℕ) (ks : List ℕ) → has (k ∷ ks) k ≡ true
    own k ks = rw (eq-eqb k k refl) refl

    later : (i k : ℕ) (ks : List ℕ) → has ks i ≡ true → has (k ∷ ks) i ≡ true
    later i k ks there = or_right (eqb k i) (has ks i) there

-- ---- the items of a circuit

pub one_more_taken : (items : List ItemData) (i : ℕ) (item : ItemData) (taken new : List ℕ) → slice_get items i ≡ Some item → new ≡ with_numbers taken (map (λ q. q.0) item.qubits)
    → taken ≡ with_numbers [] (uses (take i items)) → new ≡ with_numbers [] (uses (take (i + 1) items))
one_more_taken items i item taken new is more so_far =
    let next : i + 1 ≡ suc i = omega arith in
    let longer : take (i + 1) items ≡ take i items ++ item ∷ [] =
    ap (λ k. take k items) next ∙ take-suc items i item (slice_get_within items i item is)
    ∙ ap (λ x. take i items ++ x ∷ []) (get_or_from_slice_get items i item item is) in
    more ∙ ap (λ ns. with_numbers ns (map (λ q. q.0) item.qubits)) so_far
    ∙ sym (with_numbers-append [] (uses (take i items)) (map (λ q. q.0) item.qubits))
    ∙ ap (with_numbers []) (sym (ap uses longer ∙ used_by (take i items) item))
  where
    used_by : (front : List ItemData) (item : ItemData) → uses (front ++ item ∷ []) ≡ uses front ++ map (λ q. q.0) item.qubits
    used_by front item = flat_map-append (λ (x : ItemData). map (λ q. q.0) x.qubits) front (item ∷ []) ∙ ap (λ ns. uses front ++ ns) (append-nil (map (λ q. q.0) item.qubits))

pub full_taken : (c : CircuitData) (i : ℕ) (taken : List ℕ) → IsCircuit c → c.qubits ≤ length taken → taken ≡ with_numbers [] (uses (take i c.items))
    → taken ≡ with_numbers [] (uses c.items)
full_taken c i taken circuit full so_far =
    sym (ap (with_numbers []) whole ∙ with_numbers-append [] front back ∙ ap (λ ns. with_numbers ns back) (sym so_far)
    ∙ with_numbers-taken taken back (λ k used. taken_at k (below k used)))
  where
    front : List ℕ
    front = uses (take i c.items)

    back : List ℕ
    back = uses (drop i c.items)

    whole : uses c.items ≡ front ++ back
    whole = ap uses (sym (take-append-drop i c.items)) ∙ flat_map-append (λ (x : ItemData). map (λ q. q.0) x.qubits) (take i c.items) (drop i c.items)

    once : (k : ℕ) → times taken k ≡ cond (has front k) 1 0
    once k = ap (λ ns. times ns k) (so_far ∙ taken_firsts front) ∙ firsts_once front k

    few : (k : ℕ) → times taken k ≤ 1
    few k = elim (cases_Bool (has front k)) [
      | inl is ↦ let one : cond {A = ℕ} (has front k) 1 0 ≡ 1 = ap (λ b. cond {A = ℕ} b 1 0) is in omega (arith, once k, one)
      | inr other ↦ let none : cond {A = ℕ} (has front k) 1 0 ≡ 0 = ap (λ b. cond {A = ℕ} b 1 0) other in omega (arith, once k, none)
    ]

    apart : (k : ℕ) → c.qubits ≤ k → (has front k || has back k) ≡ false
    apart k past = sym (has-append front back k) ∙ ap (λ ns. has ns k) (sym whole) ∙ absent c.qubits c.bits k c.items circuit.within past

    front_false : (a b : Bool) → (a || b) ≡ false → a ≡ false
    front_false true b none = none
    front_false false b none = refl

    none_past : (k : ℕ) → c.qubits ≤ k → times taken k ≡ 0
    none_past k past = once k ∙ ap (λ b. cond {A = ℕ} b 1 0) (front_false (has front k) (has back k) (apart k past))

    all_there : (k : ℕ) → k < c.qubits → times taken k ≡ 1
    all_there k less = within_full taken 0 c.qubits k few (omega (arith, all_within c.qubits taken none_past, full)) (omega arith) (omega (arith, less))

    taken_at : (k : ℕ) → k < c.qubits → has taken k ≡ true
    taken_at k less = elim (cases_Bool (has taken k)) [
      | inl is ↦ is
      | inr other ↦ absurd (omega (arith, all_there k less, times_absent taken k other))
    ]

    below : (k : ℕ) → has back k ≡ true → k < c.qubits
    below k used = elim (cases_lt k c.qubits) [
      | inl less ↦ less
      | inr past ↦ absurd (cc (sym (or_right (has front k) (has back k) used) ∙ apart k past))
    ]
