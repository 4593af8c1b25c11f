-- Traps filled in the order of their numbers.
use Rattle.std.proofs.Common.{◌≡◌, ℕ, zero, suc, ◌+◌, ◌-◌, ◌<◌, ◌≤◌, max, min, cond, List, [], ◌∷◌, ◌++◌, map, length, take, drop, get_or, refl, sym, ◌∙◌, ap, arith, inl, inr, length-drop, append_assoc}
use Rattle.std.specs.Prelude.{◌==◌, count_by, flat_map, sum, nat_le, nat_lt, slice_get, option_map, Some}
use Rattle.std.proofs.lemmas.Bool.{cases_Bool, cases_lt, leb-true}
use Rattle.std.proofs.lemmas.List.{take-append-drop, length-take, take_min}
use Rattle.std.proofs.lemmas.List.Sums.{sum_by-cons}
use Rattle.std.proofs.lemmas.Option.{slice_get-map}
use Rattle.qccd_base.specs.Names.{ion}
use Rattle.qccd_base.specs.declared.names.Ion.{Ion}
use Rattle.qccd_circuit.specs.Circuit.{CircuitData, IsCircuit}
use Rattle.qccd_machine.specs.Machine.{MachineData, IsValid}
use Rattle.ion_mapping.specs.Placement.{by_use, fills, filled, chains_at_start, spared}
use Rattle.ion_mapping.proofs.Steps.{drop_there, drop_past}
use Rattle.ion_mapping.proofs.Firsts.{times, times-cons, use_once, use_long}

-- how often ion i stands in a list, and in all lists
abbrev pub ion_times : List Ion → ℕ → ℕ
ion_times xs i = count_by (λ (x : Ion). x.0 == i) xs

abbrev pub in_all : List (List Ion) → List Ion
in_all chains = flat_map (λ chain. chain) chains

ion-cons : (x : Ion) (xs : List Ion) (i : ℕ) → ion_times (x ∷ xs) i ≡ cond (x.0 == i) 1 0 + ion_times xs i
ion-cons x xs i = sum_by-cons (λ (y : Ion). cond (y.0 == i) 1 0) x xs

ion-append : (xs ys : List Ion) (i : ℕ) → ion_times (xs ++ ys) i ≡ ion_times xs i + ion_times ys i
ion-append [] ys i = omega arith
ion-append (x ∷ xs) ys i = omega (arith, ion-append xs ys i, ion-cons x (xs ++ ys) i, ion-cons x xs i)

ions_of : (xs : List ℕ) (i : ℕ) → ion_times (map ion xs) i ≡ times xs i
ions_of [] i = refl
ions_of (x ∷ xs) i = omega (arith, ions_of xs i, times-cons x xs i, ion-cons (ion x) (map ion xs) i)

ions_long : (xs : List ℕ) → length (map ion xs) ≡ length xs
ions_long [] = refl
ions_long (x ∷ xs) = ap suc (ions_long xs)

-- ---- what is filled

filled_long : (ns : List ℕ) (xs : List Ion) → length (filled ns xs) ≡ length ns
filled_long [] xs = refl
filled_long (n ∷ ns) xs = ap suc (filled_long ns (drop n xs))

filled_times : (ns : List ℕ) (xs : List Ion) (i : ℕ) → length xs ≤ sum ns → ion_times (in_all (filled ns xs)) i ≡ ion_times xs i
filled_times [] [] i enough = refl
filled_times [] (x ∷ xs) i enough = absurd (omega arith)
filled_times (n ∷ ns) xs i enough =
    let rest : ion_times (in_all (filled ns (drop n xs))) i ≡ ion_times (drop n xs) i = filled_times ns (drop n xs) i (omega (arith, length-drop n xs, sum_by-cons (λ (x : ℕ). x) n ns)) in
    ion-append (take n xs) (in_all (filled ns (drop n xs))) i ∙ ap (λ c. ion_times (take n xs) i + c) rest
    ∙ sym (ion-append (take n xs) (drop n xs) i) ∙ ap (λ ys. ion_times ys i) (take-append-drop n xs)

filled_fits : (ns : List ℕ) (xs : List Ion) (t : ℕ) → length (get_or (filled ns xs) t []) ≤ get_or ns t 0
filled_fits [] xs t = omega arith
filled_fits (n ∷ ns) xs zero = omega (arith, length-take n xs)
filled_fits (n ∷ ns) xs (suc t) = filled_fits ns (drop n xs) t

-- ---- with how many

fills_fit : (caps : List ℕ) (s t : ℕ) → ((k : ℕ) → k < length caps → 2 ≤ get_or caps k 0) → get_or (map (λ c. max (c - s) 1) caps) t 0 ≤ get_or caps t 0
fills_fit [] s t two = omega arith
fills_fit (c ∷ caps) s zero two = omega (arith, two 0 (omega arith))
fills_fit (c ∷ caps) s (suc t) two = fills_fit caps s t (λ k less. two (suc k) (omega arith))

fills_all : (caps : List ℕ) → sum caps ≤ sum (map (λ c. max (c - 0) 1) caps)
fills_all [] = omega arith
fills_all (c ∷ caps) = omega (arith, fills_all caps, sum_by-cons (λ (x : ℕ). x) c caps, sum_by-cons (λ (x : ℕ). x) (max (c - 0) 1) (map (λ c. max (c - 0) 1) caps))

fills_long : (caps : List ℕ) (s : ℕ) → length (map (λ c. max (c - s) 1) caps) ≡ length caps
fills_long [] s = refl
fills_long (c ∷ caps) s = ap suc (fills_long caps s)

-- all qubits have a place with what is spared
pub enough_spared : (c : CircuitData) (m : MachineData) → c.qubits ≤ sum m.capacities → c.qubits ≤ sum (fills m (spared m c.qubits))
enough_spared c m slots = elim (cases_Bool (nat_le c.qubits (sum (fills m 2)))) [
  | inl two ↦ rw two (leb-true c.qubits (sum (fills m 2)) two)
  | inr not_two ↦ elim (cases_Bool (nat_le c.qubits (sum (fills m 1)))) [
    | inl one ↦ rw (not_two, one) (leb-true c.qubits (sum (fills m 1)) one)
    | inr not_one ↦ elim (cases_Bool (nat_le c.qubits (sum (fills m 0)))) [
      | inl none ↦ rw (not_two, not_one, none) (omega (arith, fills_all m.capacities))
      | inr not_none ↦ rw (not_two, not_one, not_none) (omega (arith, fills_all m.capacities))
    ]
  ]
]

-- ---- the placement

pub placed_long : (c : CircuitData) (m : MachineData) → length (chains_at_start c m) ≡ length m.capacities
unfolding chains_at_start
placed_long c m = filled_long (fills m (spared m c.qubits)) (map ion (by_use c)) ∙ fills_long m.capacities (spared m c.qubits)

pub placed_fits : (c : CircuitData) (m : MachineData) (t : ℕ) → IsValid m → length (get_or (chains_at_start c m) t []) ≤ get_or m.capacities t 0
unfolding chains_at_start
placed_fits c m t valid =
    omega (arith, filled_fits (fills m (spared m c.qubits)) (map ion (by_use c)) t, fills_fit m.capacities (spared m c.qubits) t (λ k less. (valid.capacities k 0 less).0))

pub placed_once : (c : CircuitData) (m : MachineData) (i : ℕ) → IsCircuit c → c.qubits ≤ sum m.capacities → ion_times (in_all (chains_at_start c m)) i ≡ cond (nat_lt i c.qubits) 1 0
unfolding chains_at_start
placed_once c m i circuit slots =
    filled_times (fills m (spared m c.qubits)) (map ion (by_use c)) i (omega (arith, enough_spared c m slots, use_long c circuit, ions_long (by_use c)))
    ∙ ions_of (by_use c) i ∙ use_once c i circuit

-- ---- one trap after another

-- what the trap of this capacity is filled with
pub fill_there : (m : MachineData) (spare t capacity : ℕ) → slice_get m.capacities t ≡ Some capacity → slice_get (fills m spare) t ≡ Some (max (capacity - spare) 1)
fill_there m spare t capacity is = slice_get-map (λ c. max (c - spare) 1) m.capacities t ∙ ap (option_map (λ c. max (c - spare) 1)) is

pub sum_there : (ns : List ℕ) (t n : ℕ) → slice_get ns t ≡ Some n → sum (drop t ns) ≡ n + sum (drop (t + 1) ns)
sum_there ns t n is = ap sum (drop_there ns t n is) ∙ sum_by-cons (λ (x : ℕ). x) n (drop (t + 1) ns)

pub filled_there : (ns : List ℕ) (t n : ℕ) (xs : List Ion) → slice_get ns t ≡ Some n → filled (drop t ns) xs ≡ take n xs ∷ filled (drop (t + 1) ns) (drop n xs)
filled_there ns t n xs is = ap (λ rest. filled rest xs) (drop_there ns t n is)

-- one more chain, where what is taken is no more than is left
pub chain_filled : (ns : List ℕ) (t n : ℕ) (chains new : List (List Ion)) (xs chain rest : List Ion) (whole : List (List Ion)) → slice_get ns t ≡ Some n → new ≡ chains ++ chain ∷ []
    → chain ≡ take (min n (length xs)) xs → rest ≡ drop (min n (length xs)) xs → chains ++ filled (drop t ns) xs ≡ whole → new ++ filled (drop (t + 1) ns) rest ≡ whole
chain_filled ns t n chains new xs chain rest whole is new_is chain_is rest_is all =
    let first : chain ≡ take n xs = chain_is ∙ take_min n xs in
    let later : rest ≡ drop n xs = rest_is ∙ drop_min n xs in
    ap (λ (cs : List (List Ion)). cs ++ filled (drop (t + 1) ns) rest) new_is ∙ append_assoc chains (chain ∷ []) (filled (drop (t + 1) ns) rest)
    ∙ ap (λ (c : List Ion). chains ++ c ∷ filled (drop (t + 1) ns) rest) first ∙ ap (λ (r : List Ion). chains ++ take n xs ∷ filled (drop (t + 1) ns) r) later
    ∙ ap (λ (cs : List (List Ion)). chains ++ cs) (sym (filled_there ns t n xs is)) ∙ all
  where
    drop_min : (n : ℕ) (ys : List Ion) → drop (min n (length ys)) ys ≡ drop n ys
    drop_min n ys = elim (cases_lt n (length ys)) [
      | inl less ↦ let same : min n (length ys) ≡ n = omega arith in ap (λ k. drop k ys) same
      | inr past ↦ let all_of : min n (length ys) ≡ length ys = omega arith in ap (λ k. drop k ys) all_of ∙ drop_past (length ys) ys (omega arith) ∙ sym (drop_past n ys past)
    ]
