-- A safe state with nothing outside the traps rests, with the chains that are read of it.
use Rattle.std.proofs.Common.{◌≡◌, ℕ, zero, suc, ◌+◌, ◌<◌, ◌≤◌, Bool, true, false, cond, List, [], ◌∷◌, map, length, refl, sym, ◌∙◌, ap, arith, Option, Some, None, inl, inr}
use Rattle.std.specs.Prelude.{◌==◌, count_by, filter, find, filter_map, slice_get, option_map, is_some, nat_lt, if◌then◌else◌}
use Rattle.std.specs.List.{range_with_len}
use Rattle.std.proofs.lemmas.Bool.{cases_Bool, cases_lt}
use Rattle.std.proofs.lemmas.Bool.Decides.{nat_tests}
use Rattle.qccd_base.specs.declared.names.Qubit.{Qubit}
use Rattle.qccd_machine.specs.Machine.{MachineData}
use Rattle.op_table.specs.State.{Stand, State, IsSafe, is_at, is_on_segment, is_in_junction, ions_in, qubit_at}
use Rattle.op_table.proofs.Chains.{none_past}
use Rattle.op_plan.specs.Place.{qubits_in}
use Rattle.chain_reorder.specs.Layout.{Lies, listed, riding, settled}
use Rattle.chain_reorder.proofs.Lists.{count_by-cons}
use Rattle.chain_reorder.proofs.Legs.{no_rider, no_carry}
use Rattle.router.proofs.Search.{some_of}
use Rattle.rebalancer.specs.Outside.{NothingOutside}
use Rattle.rebalancer.proofs.Room.{Rests}

none_counted : {X Z : Type 0} (v : X → Z) (p : X → Bool) (xs : List X) → count_by p xs ≡ 0 → map v (filter p xs) ≡ []
none_counted v p [] none = refl
none_counted v p (x ∷ xs) none = elim (cases_Bool (p x)) [
  | inl is ↦ absurd (let one : cond {A = ℕ} (p x) 1 0 ≡ 1 = ap (λ b. cond b 1 0) is in omega (arith, count_by-cons p x xs))
  | inr not_x ↦ rw not_x (none_counted v p xs (omega (arith, count_by-cons p x xs)))
]

few_found : {X Z : Type 0} (v : X → Z) (p : X → Bool) (xs : List X) → count_by p xs ≤ 1 → map v (filter p xs) ≡ listed (option_map v (find p xs))
few_found v p [] few = refl
few_found v p (x ∷ xs) few = elim (cases_Bool (p x)) [
  | inl is ↦
      let one : cond {A = ℕ} (p x) 1 0 ≡ 1 = ap (λ b. cond b 1 0) is in
      rw is (ap (λ ys. v x ∷ ys) (none_counted v p xs (omega (arith, count_by-cons p x xs))))
  | inr not_x ↦ rw not_x (few_found v p xs (omega (arith, count_by-cons p x xs)))
]

some_counted : {X : Type 0} (p : X → Bool) (xs : List X) → 1 ≤ count_by p xs → is_some (find p xs) ≡ true
some_counted p [] some = absurd (omega arith)
some_counted p (x ∷ xs) some = elim (cases_Bool (p x)) [
  | inl is ↦ rw is refl
  | inr not_x ↦
      let none : cond {A = ℕ} (p x) 1 0 ≡ 0 = ap (λ b. cond b 1 0) not_x in
      rw not_x (some_counted p xs (omega (arith, count_by-cons p x xs)))
]

some_mapped : {X Z : Type 0} (v : X → Z) (o : Option X) → is_some o ≡ true → is_some (option_map v o) ≡ true
some_mapped v None h = h
some_mapped v (Some x) h = refl

-- what a function gives on a range, where it gives something everywhere
pub record Reads {X : Type 0} (f : ℕ → Option X) (a n : ℕ) (xs : List X) : Type 0 where
  pub long : length xs ≡ n
  pub within : (k : ℕ) → k < n → slice_get xs k ≡ f (a + k)
  pub past : (k : ℕ) → n ≤ k → slice_get xs k ≡ None

reads_range : {X : Type 0} (f : ℕ → Option X) (a n : ℕ) → ((k : ℕ) → a ≤ k → k < a + n → is_some (f k) ≡ true) → Reads f a n (filter_map f (range_with_len a n))
reads_range f a zero each = record { long = refl; within = λ k less. absurd (omega arith); past = λ k more. refl }
reads_range {X = X} f a (suc n) each =
    let some : (x : X) × (f a ≡ Some x) = some_of (f a) (each a (omega arith) (omega arith)) in
    let rest : Reads f (a + 1) n (filter_map f (range_with_len (a + 1) n)) = reads_range f (a + 1) n (λ k low high. each k (omega arith) (omega arith)) in
    rw some.1 (with_first f a n some.0 (filter_map f (range_with_len (a + 1) n)) some.1 rest)
  where
    with_first : {X : Type 0} (f : ℕ → Option X) (a n : ℕ) (x : X) (xs : List X) → f a ≡ Some x → Reads f (a + 1) n xs → Reads f a (suc n) (x ∷ xs)
    with_first f a n x xs is rest = record { long = ap suc rest.long; within = within f a n x xs is rest; past = past f a n x xs rest }
      where
        within : {X : Type 0} (f : ℕ → Option X) (a n : ℕ) (x : X) (xs : List X) → f a ≡ Some x → Reads f (a + 1) n xs → (k : ℕ) → k < suc n → slice_get (x ∷ xs) k ≡ f (a + k)
        within f a n x xs is rest zero less = sym is ∙ ap f (let e : a ≡ a + 0 = omega arith in e)
        within f a n x xs is rest (suc k) less = rest.within k (omega arith) ∙ ap f (let e : a + 1 + k ≡ a + suc k = omega arith in e)

        past : {X : Type 0} (f : ℕ → Option X) (a n : ℕ) (x : X) (xs : List X) → Reads f (a + 1) n xs → (k : ℕ) → suc n ≤ k → slice_get (x ∷ xs) k ≡ None
        past f a n x xs rest zero more = absurd (omega arith)
        past f a n x xs rest (suc k) more = rest.past k (omega arith)

one_or_none : (b : Bool) (n : ℕ) → n ≤ (if b then 1 else 0) → n ≤ 1
one_or_none true n h = h
one_or_none false n h = omega arith

pub lies_own : (m : MachineData) (s : State) → IsSafe m s → NothingOutside s → Lies s (settled (qubits_in s))
lies_own m s safe nothing =
    let some : (t k : ℕ) → 0 ≤ k → k < 0 + ions_in s t → is_some (qubit_at s t k) ≡ true = λ t k low high. some_mapped (λ (w : Stand). w.qubit) (find (λ (w : Stand). is_at t k w.place) s.ions)
    (some_counted (λ (w : Stand). is_at t k w.place) s.ions (let one : count_by (λ (w : Stand). is_at t k w.place) s.ions ≡ 1 = safe.indexes t k (omega arith) in omega arith)) in
    let reads : (t : ℕ) → Reads (qubit_at s t) 0 (ions_in s t) (qubits_in s t) = λ t. reads_range (qubit_at s t) 0 (ions_in s t) (some t) in
    record {
      counts = λ t. sym (reads t).long;
      chains = λ t k. elim (cases_lt k (ions_in s t)) [
        | inl less ↦
            few_found (λ (w : Stand). w.qubit) (λ (w : Stand). is_at t k w.place) s.ions (let one : count_by (λ (w : Stand). is_at t k w.place) s.ions ≡ 1 = safe.indexes t k less in omega arith)
            ∙ ap listed (ap (qubit_at s t) (let e : k ≡ 0 + k = omega arith in e) ∙ sym ((reads t).within k less))
        | inr more ↦ none_counted (λ (w : Stand). w.qubit) (λ (w : Stand). is_at t k w.place) s.ions (none_past m s t k safe more) ∙ ap listed (sym ((reads t).past k more))
      ];
      riders = λ g.
          few_found riding (λ (w : Stand). is_on_segment g w.place) s.ions (one_or_none (nat_lt g (length m.segments)) (count_by (λ (w : Stand). is_on_segment g w.place) s.ions) (safe.segments g))
          ∙ ap (λ o. listed (option_map riding o)) (nothing.segments g);
      carries = λ j.
          few_found (λ (w : Stand). w.qubit) (λ (w : Stand). is_in_junction j w.place) s.ions (one_or_none (nat_lt j m.junctions) (count_by (λ (w : Stand). is_in_junction j w.place) s.ions) (safe.junctions j))
          ∙ ap (λ o. listed (option_map (λ (w : Stand). w.qubit) o)) (nothing.junctions j);
    }

-- ---- each qubit is carried once

count_next_qubit : (n : ℕ) (ions : List Stand) → count_by (λ (w : Stand). nat_lt w.qubit.0 (suc n)) ions ≡ count_by (λ (w : Stand). nat_lt w.qubit.0 n) ions + count_by (λ (w : Stand). w.qubit.0 == n) ions
count_next_qubit n [] = refl
count_next_qubit n (w ∷ ions) = omega (
  arith,
  count_next_qubit n ions,
  next w.qubit.0,
  count_by-cons (λ (w : Stand). nat_lt w.qubit.0 (suc n)) w ions,
  count_by-cons (λ (w : Stand). nat_lt w.qubit.0 n) w ions,
  count_by-cons (λ (w : Stand). w.qubit.0 == n) w ions,
)
  where
    next : (q : ℕ) → cond {A = ℕ} (nat_lt q (suc n)) 1 0 ≡ cond (nat_lt q n) 1 0 + cond (q == n) 1 0
    next q = grind (arith, nat_tests)

qubits_below : (ions : List Stand) (n : ℕ) → ((q : ℕ) → q < n → count_by (λ (w : Stand). w.qubit.0 == q) ions ≡ 1) → n ≤ count_by (λ (w : Stand). nat_lt w.qubit.0 n) ions
qubits_below ions zero each = omega arith
qubits_below ions (suc n) each = omega (arith, qubits_below ions n (λ q less. each q (omega arith)), each n (omega arith), count_next_qubit n ions)

qubits_past : (n q : ℕ) → n ≤ q → (ions : List Stand) → count_by (λ (w : Stand). w.qubit.0 == q) ions + count_by (λ (w : Stand). nat_lt w.qubit.0 n) ions ≤ length ions
qubits_past n q past [] = omega arith
qubits_past n q past (w ∷ ions) = omega (
  arith,
  qubits_past n q past ions,
  one_of w.qubit.0,
  count_by-cons (λ (w : Stand). w.qubit.0 == q) w ions,
  count_by-cons (λ (w : Stand). nat_lt w.qubit.0 n) w ions,
)
  where
    one_of : (r : ℕ) → cond {A = ℕ} (r == q) 1 0 + cond (nat_lt r n) 1 0 ≤ 1
    one_of r = grind (arith, nat_tests)

carried_once : (m : MachineData) (s : State) → IsSafe m s → (q : ℕ) → count_by (λ (w : Stand). w.qubit.0 == q) s.ions ≤ 1
carried_once m s safe q = elim (cases_lt q (length s.ions)) [
  | inl less ↦ let one : count_by (λ (w : Stand). w.qubit.0 == q) s.ions ≡ 1 = safe.qubits q less in omega arith
  | inr past ↦ omega (arith, qubits_past (length s.ions) q past s.ions, qubits_below s.ions (length s.ions) safe.qubits)
]

pub rests_own : (m : MachineData) (s : State) → IsSafe m s → NothingOutside s → Rests m s (qubits_in s)
rests_own m s safe nothing =
    let lies : Lies s (settled (qubits_in s)) = lies_own m s safe nothing in
    record {
      lies = lies;
      once = carried_once m s safe;
      fits = λ t. omega (arith, lies.counts t, safe.capacities t);
      each = λ q less. (let one : count_by (λ (w : Stand). w.qubit.0 == q) s.ions ≡ 1 = safe.qubits q less in omega arith);
    }

-- nothing is outside the traps of a state that rests
pub nothing_outside : (m : MachineData) (s : State) (cs : ℕ → List Qubit) → Rests m s cs → NothingOutside s
nothing_outside m s cs rests = record {
  segments = λ g. no_rider s (settled cs) g rests.lies refl;
  junctions = λ j. no_carry s (settled cs) j rests.lies refl;
}

-- a qubit that some ion carries is below the number of ions
pub carried_below : (m : MachineData) (s : State) (q : ℕ) → IsSafe m s → 1 ≤ count_by (λ (w : Stand). w.qubit.0 == q) s.ions → q < length s.ions
carried_below m s q safe some = elim (cases_lt q (length s.ions)) [
  | inl less ↦ less
  | inr past ↦ absurd (omega (arith, some, qubits_past (length s.ions) q past s.ions, qubits_below s.ions (length s.ions) safe.qubits))
]
