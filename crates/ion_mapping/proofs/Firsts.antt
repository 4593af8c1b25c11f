-- Each number once, where it comes first.
use Rattle.std.proofs.Common.{◌≡◌, ℕ, zero, suc, ◌+◌, ◌<◌, ◌≤◌, Bool, false, cond, eqb, not, ◌||◌, ◌&&◌, List, [], ◌∷◌, ◌++◌, map, length, refl, sym, ◌∙◌, ap, subst, arith, inl, inr}
use Rattle.std.specs.Prelude.{◌==◌, count_by, filter, nat_lt}
use Rattle.std.specs.List.{All, range_with_len}
use Rattle.std.proofs.lemmas.Bool.{cases_Bool, cases_lt, eqb-true, eq-eqb, ne_eqb, lt-ltb, le-ltb, or_right}
use Rattle.std.proofs.lemmas.Bool.Decides.{nat_tests}
use Rattle.std.proofs.lemmas.List.Sums.{sum_by-cons}
use Rattle.qccd_base.specs.declared.names.Qubit.{Qubit}
use Rattle.qccd_circuit.specs.Item.{ItemData}
use Rattle.qccd_circuit.specs.Circuit.{CircuitData, IsCircuit, IsWithin}
use Rattle.ion_mapping.specs.Placement.{firsts, uses, by_use}
use Rattle.ion_mapping.specs.Taking.{has}

-- how often a number stands in a list
abbrev pub times : List ℕ → ℕ → ℕ
times xs k = count_by (λ n. n == k) xs

count-cons : (p : ℕ → Bool) (x : ℕ) (xs : List ℕ) → count_by p (x ∷ xs) ≡ cond (p x) 1 0 + count_by p xs
count-cons p x xs = sum_by-cons (λ n. cond (p n) 1 0) x xs

pub times-cons : (x : ℕ) (xs : List ℕ) (k : ℕ) → times (x ∷ xs) k ≡ cond (x == k) 1 0 + times xs k
times-cons x xs k = sum_by-cons (λ n. cond (n == k) 1 0) x xs

pub times-append : (xs ys : List ℕ) (k : ℕ) → times (xs ++ ys) k ≡ times xs k + times ys k
times-append [] ys k = omega arith
times-append (x ∷ xs) ys k = omega (arith, times-append xs ys k, times-cons x (xs ++ ys) k, times-cons x xs k)

-- without the number x there is none of it, and as many of each other
times_without_own : (x : ℕ) (xs : List ℕ) → times (filter (λ n. not (n == x)) xs) x ≡ 0
times_without_own x [] = refl
times_without_own x (y ∷ ys) = elim (cases_Bool (eqb y x)) [
  | inl is ↦ rw is (times_without_own x ys)
  | inr other ↦
      let none : cond {A = ℕ} (eqb y x) 1 0 ≡ 0 = ap (λ b. cond {A = ℕ} b 1 0) other in
      rw other (omega (arith, times_without_own x ys, times-cons y (filter (λ n. not (n == x)) ys) x))
]

times_without_other : (x k : ℕ) (xs : List ℕ) → eqb x k ≡ false → times (filter (λ n. not (n == x)) xs) k ≡ times xs k
times_without_other x k [] apart = refl
times_without_other x k (y ∷ ys) apart = elim (cases_Bool (eqb y x)) [
  | inl is ↦
      let off : eqb y k ≡ false = subst (λ n. eqb n k ≡ false) (sym (eqb-true y x is)) apart in
      let none : cond {A = ℕ} (eqb y k) 1 0 ≡ 0 = ap (λ b. cond {A = ℕ} b 1 0) off in
      rw is (omega (arith, times_without_other x k ys apart, times-cons y ys k))
  | inr other ↦ rw other (omega (arith, times_without_other x k ys apart, times-cons y (filter (λ n. not (n == x)) ys) k, times-cons y ys k))
]

pub firsts_once : (xs : List ℕ) (k : ℕ) → times (firsts xs) k ≡ cond (has xs k) 1 0
firsts_once [] k = refl
firsts_once (x ∷ xs) k = elim (cases_Bool (eqb x k)) [
  | inl is ↦
      let none : times (filter (λ n. not (n == x)) (firsts xs)) k ≡ 0 = subst (λ i. times (filter (λ n. not (n == x)) (firsts xs)) i ≡ 0) (eqb-true x k is) (times_without_own x (firsts xs)) in
      times-cons x (filter (λ n. not (n == x)) (firsts xs)) k ∙ rw (is, none) refl
  | inr other ↦ times-cons x (filter (λ n. not (n == x)) (firsts xs)) k ∙ rw (other, times_without_other x k (firsts xs) other, firsts_once xs k) (plus_none (cond (has xs k) 1 0))
]
  where
    plus_none : (n : ℕ) → 0 + n ≡ n
    plus_none n = omega arith

pub has-append : (xs ys : List ℕ) (k : ℕ) → has (xs ++ ys) k ≡ (has xs k || has ys k)
has-append [] ys k = refl
has-append (x ∷ xs) ys k = elim (cases_Bool (eqb x k)) [ inl is ↦ rw is refl | inr not_x ↦ rw not_x (has-append xs ys k) ]

has_range : (a n k : ℕ) → has (range_with_len a n) k ≡ cond (nat_lt k a) false (nat_lt k (a + n))
has_range a zero k = grind (arith, nat_tests)
has_range a (suc n) k =
    let rest : has (range_with_len (a + 1) n) k ≡ cond (nat_lt k (a + 1)) false (nat_lt k (a + 1 + n)) = has_range (a + 1) n k in
    ap (λ b. eqb a k || b) rest ∙ by_order
  where
    by_order : (eqb a k || cond (nat_lt k (a + 1)) false (nat_lt k (a + 1 + n))) ≡ cond (nat_lt k a) false (nat_lt k (a + suc n))
    by_order = grind (arith, nat_tests)

-- no item of a circuit names a qubit that is not there
absent_in_item : (n k : ℕ) (qubits : List Qubit) → All (λ q. q.0 < n) qubits → n ≤ k → has (map (λ q. q.0) qubits) k ≡ false
absent_in_item n k [] all past = refl
absent_in_item n k (q ∷ qubits) all past =
    let less : q.0 < n = all 0 q (omega arith) in
    let off : eqb q.0 k ≡ false = ne_eqb q.0 k (λ same. absurd (omega (arith, less))) in
    rw off (absent_in_item n k qubits (λ i d there. all (suc i) d (omega arith)) past)

pub absent : (n bits k : ℕ) (items : List ItemData) → All (IsWithin n bits) items → n ≤ k → has (uses items) k ≡ false
absent n bits k [] all past = refl
absent n bits k (item ∷ items) all past =
    has-append (map (λ q. q.0) item.qubits) (uses items) k
    ∙ rw (absent_in_item n k item.qubits (all 0 item (omega arith)).qubits_below past, absent n bits k items (λ i d there. all (suc i) d (omega arith)) past) refl

pub use_once : (c : CircuitData) (k : ℕ) → IsCircuit c → times (by_use c) k ≡ cond (nat_lt k c.qubits) 1 0
use_once c k circuit = firsts_once (uses c.items ++ range_with_len 0 c.qubits) k
    ∙ ap (λ b. cond {A = ℕ} b 1 0) (has-append (uses c.items) (range_with_len 0 c.qubits) k ∙ (elim (cases_lt k c.qubits) [
      | inl less ↦ or_right (has (uses c.items) k) (has (range_with_len 0 c.qubits) k) (has_range 0 c.qubits k ∙ rw (le-ltb k 0 (omega arith)) (lt-ltb k (0 + c.qubits) (omega arith))) ∙ sym (lt-ltb k c.qubits less)
      | inr past ↦ rw (absent c.qubits c.bits k c.items circuit.within past) (has_range 0 c.qubits k ∙ rw (le-ltb k 0 (omega arith)) (le-ltb k (0 + c.qubits) (omega arith))) ∙ sym (le-ltb k c.qubits past)
    ]))

-- ---- a list that has each number below n once, and no other, is that long

-- whether x is one of the n numbers from a on
abbrev pub is_within : ℕ → ℕ → ℕ → Bool
is_within a n x = not (nat_lt x a) && nat_lt x (a + n)

within_next : (a n x : ℕ) → cond {A = ℕ} (is_within a (suc n) x) 1 0 ≡ cond (x == a) 1 0 + cond (is_within (a + 1) n x) 1 0
within_next a n x = grind (arith, nat_tests)

pub within_split : (a n : ℕ) (xs : List ℕ) → count_by (is_within a (suc n)) xs ≡ times xs a + count_by (is_within (a + 1) n) xs
within_split a n [] = refl
within_split a n (x ∷ xs) = omega (arith, within_split a n xs, within_next a n x, count-cons (is_within a (suc n)) x xs, count-cons (is_within (a + 1) n) x xs, times-cons x xs a)

pub within_none : (a : ℕ) (xs : List ℕ) → count_by (is_within a 0) xs ≡ 0
within_none a [] = refl
within_none a (x ∷ xs) =
    let off : cond {A = ℕ} (is_within a 0 x) 1 0 ≡ 0 = grind (arith, nat_tests) in
    omega (arith, within_none a xs, count-cons (is_within a 0) x xs)

within_all : (xs : List ℕ) (a n : ℕ) → ((k : ℕ) → a ≤ k → k < a + n → times xs k ≡ 1) → count_by (is_within a n) xs ≡ n
within_all xs a zero once = within_none a xs
within_all xs a (suc n) once = omega (arith, within_split a n xs, once a (omega arith) (omega arith), within_all xs (a + 1) n (λ k low high. once k (omega arith) (omega arith)))

pub all_within : (n : ℕ) (xs : List ℕ) → ((k : ℕ) → n ≤ k → times xs k ≡ 0) → count_by (is_within 0 n) xs ≡ length xs
all_within n [] none = refl
all_within n (x ∷ xs) none = elim (cases_lt x n) [
  | inl less ↦
      let on : cond {A = ℕ} (is_within 0 n x) 1 0 ≡ 1 = grind (arith, nat_tests) in
      omega (arith, all_within n xs (λ k past. omega (arith, none k past, times-cons x xs k)), count-cons (is_within 0 n) x xs)
  | inr past ↦
      let one : cond {A = ℕ} (eqb x x) 1 0 ≡ 1 = ap (λ b. cond {A = ℕ} b 1 0) (eq-eqb x x refl) in
      absurd (omega (arith, none x past, times-cons x xs x))
]

pub once_long : (n : ℕ) (xs : List ℕ) → ((k : ℕ) → times xs k ≡ cond (nat_lt k n) 1 0) → length xs ≡ n
once_long n xs once =
    sym (all_within n xs (λ k past. once k ∙ rw (le-ltb k n past) refl))
    ∙ within_all xs 0 n (λ k low high. once k ∙ rw (lt-ltb k n (omega arith)) refl)

pub use_long : (c : CircuitData) → IsCircuit c → length (by_use c) ≡ c.qubits
use_long c circuit = once_long c.qubits (by_use c) (λ k. use_once c k circuit)
