-- Room is always made.
use Rattle.std.proofs.Common.{◌≡◌, ℕ, zero, suc, ◌+◌, ◌*◌, ◌<◌, ◌≤◌, Bool, true, false, cond, eqb, not, ◌&&◌, List, [], ◌∷◌, ◌++◌, length, get_or, refl, sym, ◌∙◌, ap, arith, Option, Some, inl, inr, subst, append-nil, length-append, suc-mul}
use Rattle.std.specs.Prelude.{◌==◌, find, filter_map, slice_get, option_map, unwrap_or, is_some}
use Rattle.std.specs.List.{range_with_len}
use Rattle.std.proofs.lemmas.Bool.{cases_Bool, and_from, eqb-true, ne_eqb, lt-ltb, or_parts, not-true}
use Rattle.std.proofs.lemmas.Bool.Decides.{nat_tests}
use Rattle.qccd_base.specs.declared.names.Qubit.{Qubit}
use Rattle.qccd_base.specs.declared.names.End.{End}
use Rattle.qccd_base.specs.declared.names.End.TheVariants.{Left, Right}
use Rattle.qccd_base.specs.declared.names.Mode.{Mode}
use Rattle.qccd_machine.specs.Machine.{MachineData, IsValid, hop_bound}
use Rattle.qccd_base.specs.Greatest.{greatest}
use Rattle.op_table.specs.declared.kinds.OpKind.{OpKind}
use Rattle.op_table.specs.State.{Stand, State, is_at, ions_in, qubit_at}
use Rattle.op_table.specs.Step.{has_trap}
use Rattle.op_table.specs.Run.{IsRun, after}
use Rattle.chain_reorder.specs.Layout.{Layout, Lies, with_at, joined, settled, listed}
use Rattle.router.specs.Paths.{hop_path}
use Rattle.router.specs.Hops.{are_neighbours, hops_lead, distance, next_hop}
use Rattle.op_plan.specs.Place.{qubits_in, trap_of}
use Rattle.rebalancer.specs.Hop.{hop_along, hop_ops, leaving_end}
use Rattle.rebalancer.specs.Room.{is_kept, seen_from, handed, hand_ops, hands_ops, then_for, way_to}
use Rattle.chain_reorder.proofs.Lists.{count_by-cons, found}
use Rattle.chain_reorder.proofs.Steps.{at_own, at_other, eqb_same}
use Rattle.router.proofs.Search.{find_passes, some_of, in_any_range}
use Rattle.chain_reorder.proofs.Reorder.{onto, times_in}
use Rattle.chain_reorder.proofs.Carried.{carriers}
use Rattle.rebalancer.proofs.Hopped.{Once, Hopped, hops, hop_short, hop_plain, stands_in}
use Rattle.op_plan.proofs.Runs.{run_append, after_append}
use Rattle.rebalancer.proofs.Plain.{Plain, plain_append, nothing_plain, ops_long}
use Rattle.router.proofs.LeastPath.{IsHop, hop_path_is}
use Rattle.router.proofs.Distances.{IsDistance, distance_is, IsNextHop, next_hop_found, next_hop_is}
use Rattle.router.specs.Wiring.{IsWiring, wiring_of}

-- the wiring of a valid machine is one
pub is_wiring : (m : MachineData) → IsValid m → IsWiring (wiring_of m)
is_wiring m valid = record { machine = m; valid = valid; is = refl }

-- ---- the chain of a state

map_get : {X : Type 0} (f : ℕ → Option X) (a n : ℕ) (xs : List X) → n ≡ length xs → ((k : ℕ) → f (a + k) ≡ slice_get xs k) → filter_map f (range_with_len a n) ≡ xs
map_get f a zero [] long reads = refl
map_get f a zero (x ∷ xs) long reads = absurd (omega arith)
map_get f a (suc n) [] long reads = absurd (omega arith)
map_get f a (suc n) (x ∷ xs) long reads =
    let here : f a ≡ Some x = ap f (plus_none a) ∙ reads 0 in
    let rest : filter_map f (range_with_len (a + 1) n) ≡ xs = map_get f (a + 1) n xs (omega arith) (λ k. ap f (plus_next a k) ∙ reads (suc k)) in
    rw (here, rest) refl
  where
    plus_none : (a : ℕ) → a ≡ a + 0
    plus_none a = omega arith

    plus_next : (a k : ℕ) → a + 1 + k ≡ a + suc k
    plus_next a k = omega arith

pub chain_is : (s : State) (l : Layout) (t : ℕ) → Lies s l → qubits_in s t ≡ l.chains t
chain_is s l t lies = map_get (qubit_at s t) 0 (ions_in s t) (l.chains t) (lies.counts t)
    (λ k. found (λ (w : Stand). w.qubit) (λ (w : Stand). is_at t (0 + k) w.place) s.ions (slice_get (l.chains t) k) (lies.chains t (0 + k) ∙ ap (λ i. listed (slice_get (l.chains t) i)) (from_none k)))
  where
    from_none : (k : ℕ) → 0 + k ≡ k
    from_none k = omega arith

-- ---- an element of a list

-- x stands in the list, behind these and before those
pub record Among {X : Type 0} (xs : List X) (x : X) : Type 0 where
  pub back : List X
  pub more : List X
  pub is : xs ≡ onto back (x ∷ more)

found_among : {X : Type 0} (p : X → Bool) (xs : List X) (x : X) → find p xs ≡ Some x → Among xs x
found_among p xs x is = from p [] xs x is
  where
    from : {X : Type 0} (p : X → Bool) (ra xs : List X) (x : X) → find p xs ≡ Some x → Among (onto ra xs) x
    from p ra [] x is = cc
    from p ra (y ∷ xs) x is = elim (cases_Bool (p y)) [
      | inl here ↦ let same : y ≡ x = (let e : Some y ≡ Some x = rw here at is in cc) in record { back = ra; more = xs; is = ap (λ z. onto ra (z ∷ xs)) same }
      | inr not_here ↦ from p (y ∷ ra) xs x (rw not_here at is)
    ]

passes_onto : {X : Type 0} (p : X → Bool) (ra xs : List X) → is_some (find p xs) ≡ true → is_some (find p (onto ra xs)) ≡ true
passes_onto p [] xs is = is
passes_onto p (y ∷ ra) xs is = passes_onto p ra (y ∷ xs) (elim (cases_Bool (p y)) [ inl here ↦ rw here refl | inr not_here ↦ rw not_here is ])

onto_twice : {X : Type 0} (ra ys zs : List X) → onto (onto ra ys) zs ≡ onto ys (ra ++ zs)
onto_twice [] ys zs = refl
onto_twice (x ∷ ra) ys zs = onto_twice ra (x ∷ ys) zs

among_reverse : {X : Type 0} (xs : List X) (x : X) → Among xs x → Among (onto xs []) x
among_reverse xs x a = record { back = a.more; more = a.back; is = ap (λ ys. onto ys []) a.is ∙ onto_twice a.back (x ∷ a.more) [] ∙ ap (λ ys. onto a.more (x ∷ ys)) (append-nil a.back) }

reverse_twice : {X : Type 0} (xs : List X) → onto (onto xs []) [] ≡ xs
reverse_twice xs = onto_twice xs [] [] ∙ append-nil xs

-- the first that passes, from either end, if any does
pub found_from : {X : Type 0} (p : X → Bool) (end : End) (xs : List X) → is_some (find p xs) ≡ true → (x : X) × (find p (seen_from end xs) ≡ Some x) × (p x ≡ true) × Among xs x
found_from p Left xs some =
    let one = some_of (find p xs) some in (one.0, one.1, find_passes p xs one.0 one.1, found_among p xs one.0 one.1)
found_from p Right xs some =
    let first = some_of (find p xs) some in
    let there : Among xs first.0 = found_among p xs first.0 first.1 in
    let back : Among (onto xs []) first.0 = among_reverse xs first.0 there in
    let passes : p first.0 ≡ true = find_passes p xs first.0 first.1 in
    let some_back : is_some (find p (onto xs [])) ≡ true = rw back.is (passes_onto p back.back (first.0 ∷ back.more) (rw passes refl)) in
    let one = some_of (find p (onto xs [])) some_back in
    (one.0, one.1, find_passes p (onto xs []) one.0 one.1, subst (λ ys. Among ys one.0) (reverse_twice xs) (among_reverse (onto xs []) one.0 (found_among p (onto xs []) one.0 one.1)))

-- ---- what is kept

-- nothing is outside the traps; each qubit is carried once; each trap keeps its bound
pub record Rests (m : MachineData) (s : State) (cs : ℕ → List Qubit) : Type 0 where
  pub lies : Lies s (settled cs)
  pub once : Once s
  pub fits : (t : ℕ) → length (cs t) ≤ get_or m.capacities t 0
  pub each : (n : ℕ) → n < length s.ions → 1 ≤ carriers s.ions n

-- of the two kept qubits one at most stands in a trap
abbrev pub Apart : (ℕ → List Qubit) → Qubit × Qubit → Type 0
Apart cs keep = (t : ℕ) → times_in (cs t) keep.0.0 + times_in (cs t) keep.1.0 ≤ 1

-- the two stay where they are
abbrev pub Keeps : (ℕ → List Qubit) → (ℕ → List Qubit) → Qubit × Qubit → Type 0
Keeps cs ds keep = (t : ℕ) → (times_in (ds t) keep.0.0 ≡ times_in (cs t) keep.0.0) × (times_in (ds t) keep.1.0 ≡ times_in (cs t) keep.1.0)

times_one : (q : Qubit) (xs : List Qubit) (n : ℕ) → eqb q.0 n ≡ true → times_in (q ∷ xs) n ≡ 1 + times_in xs n
times_one q xs n is = count_by-cons (λ (r : Qubit). r.0 == n) q xs ∙ ap (λ b. cond b 1 0 + times_in xs n) is

times_more : (q : Qubit) (xs : List Qubit) (n : ℕ) → times_in xs n ≤ times_in (q ∷ xs) n
times_more q xs n = omega (arith, count_by-cons (λ (r : Qubit). r.0 == n) q xs)

-- a list longer than it holds kept qubits has one that is not kept
other_there : (keep : Qubit × Qubit) (xs : List Qubit) → times_in xs keep.0.0 + times_in xs keep.1.0 < length xs → is_some (find (λ q. not (is_kept keep q)) xs) ≡ true
other_there keep [] fewer = absurd (omega arith)
other_there keep (q ∷ xs) fewer = elim (cases_Bool (eqb q.0 keep.0.0)) [
  | inl first ↦
      let rest : is_some (find (λ q. not (is_kept keep q)) xs) ≡ true = other_there keep xs (omega (arith, times_one q xs keep.0.0 first, times_more q xs keep.1.0)) in
      rw first rest
  | inr not_first ↦ elim (cases_Bool (eqb q.0 keep.1.0)) [
    | inl second ↦
        let rest : is_some (find (λ q. not (is_kept keep q)) xs) ≡ true = other_there keep xs (omega (arith, times_more q xs keep.0.0, times_one q xs keep.1.0 second)) in
        rw (not_first, second) rest
    | inr not_second ↦ rw (not_first, not_second) refl
  ]
]

not_kept : (keep : Qubit × Qubit) (q : Qubit) → not (is_kept keep q) ≡ true → (eqb q.0 keep.0.0 ≡ false) × (eqb q.0 keep.1.0 ≡ false)
not_kept keep q h = or_parts (eqb q.0 keep.0.0) (eqb q.0 keep.1.0) (not-true (is_kept keep q) h)

pub times_onto : (ra xs : List Qubit) (n : ℕ) → times_in (onto ra xs) n ≡ times_in ra n + times_in xs n
times_onto [] xs n = omega arith
times_onto (x ∷ ra) xs n = omega (arith, times_onto ra (x ∷ xs) n, count_by-cons (λ (q : Qubit). q.0 == n) x xs, count_by-cons (λ (q : Qubit). q.0 == n) x ra)

length_onto : (ra xs : List Qubit) → length (onto ra xs) ≡ length ra + length xs
length_onto [] xs = omega arith
length_onto (x ∷ ra) xs = omega (arith, length_onto ra (x ∷ xs))

times_joined : (e : End) (q : Qubit) (xs : List Qubit) (n : ℕ) → times_in (joined e q xs) n ≡ cond (q.0 == n) 1 0 + times_in xs n
times_joined Left q xs n = count_by-cons (λ (r : Qubit). r.0 == n) q xs
times_joined Right q [] n = count_by-cons (λ (r : Qubit). r.0 == n) q []
times_joined Right q (x ∷ xs) n = omega (arith, times_joined Right q xs n, count_by-cons (λ (r : Qubit). r.0 == n) x (xs ++ q ∷ []), count_by-cons (λ (r : Qubit). r.0 == n) x xs)

pub length_joined : (e : End) (q : Qubit) (xs : List Qubit) → length (joined e q xs) ≡ length xs + 1
length_joined Left q xs = omega arith
length_joined Right q [] = refl
length_joined Right q (x ∷ xs) = omega (arith, length_joined Right q xs)

-- ---- what a hop leaves

abbrev pub moved : (ℕ → List Qubit) → ℕ → ℕ → Qubit → End → List Qubit → ℕ → List Qubit
moved cs t u q e rest = with_at u (joined e q (cs u)) (with_at t rest cs)

moved_u : (cs : ℕ → List Qubit) (t u : ℕ) (q : Qubit) (e : End) (rest : List Qubit) → moved cs t u q e rest u ≡ joined e q (cs u)
moved_u cs t u q e rest = at_own u u (joined e q (cs u)) (with_at t rest cs) (eqb_same u)

moved_t : (cs : ℕ → List Qubit) (t u : ℕ) (q : Qubit) (e : End) (rest : List Qubit) → eqb t u ≡ false → moved cs t u q e rest t ≡ rest
moved_t cs t u q e rest apart = at_other u t (joined e q (cs u)) (with_at t rest cs) apart ∙ at_own t t rest cs (eqb_same t)

pub moved_other : (cs : ℕ → List Qubit) (t u v : ℕ) (q : Qubit) (e : End) (rest : List Qubit) → eqb v u ≡ false → eqb v t ≡ false → moved cs t u q e rest v ≡ cs v
moved_other cs t u v q e rest not_u not_t = at_other u v (joined e q (cs u)) (with_at t rest cs) not_u ∙ at_other t v rest cs not_t

pub at_most_greatest : (xs : List ℕ) (k : ℕ) → get_or xs k 0 ≤ greatest xs
at_most_greatest [] k = omega arith
at_most_greatest (x ∷ xs) zero = omega arith
at_most_greatest (x ∷ xs) (suc k) = omega (arith, at_most_greatest xs k)

-- a hop of a qubit that stands in trap t to its neighbour u
pub record Moved (m : MachineData) (s : State) (cs : ℕ → List Qubit) (t u : ℕ) (q : Qubit) (ops : List OpKind) : Type 0 where
  pub run : IsRun m s ops
  pub short : length ops ≤ hop_bound m
  pub plain : Plain ops
  pub chains : ℕ → List Qubit
  pub rests : Rests m (after m s ops) chains
  pub fewer : length (chains t) + 1 ≡ length (cs t)
  pub more : length (chains u) ≡ length (cs u) + 1
  pub others : (v : ℕ) → eqb v u ≡ false → eqb v t ≡ false → chains v ≡ cs v
  pub from : (n : ℕ) → times_in (chains t) n + cond (q.0 == n) 1 0 ≡ times_in (cs t) n
  pub to : (n : ℕ) → times_in (chains u) n ≡ times_in (cs u) n + cond (q.0 == n) 1 0

pub hop_moves : (m : MachineData) (s : State) (cs : ℕ → List Qubit) (t u : ℕ) (q : Qubit) (mode : Mode) → IsValid m → has_trap m t ≡ true → Rests m s cs → Among (cs t) q → are_neighbours (wiring_of m) t u ≡ true → length (cs u) < get_or m.capacities u 0
    → Moved m s cs t u q (hop_ops m s q u mode)
unfolding hop_ops
hop_moves m s cs t u q mode valid there rests among neighbours room =
    let path : (x : List ℕ) × (hop_path (wiring_of m) t u ≡ Some x) = some_of (hop_path (wiring_of m) t u) neighbours in
    let hop : IsHop (wiring_of m) t u path.0 = hop_path_is (wiring_of m) t u path.0 path.1 in
    let place : trap_of s q ≡ t = (stands_in s (settled cs) t (length among.back) q rests.once rests.lies (ap (λ d. slice_get d (length among.back)) among.is ∙ reads among.back (q ∷ among.more) 0 (length among.back) (omega arith))).0 in
    let apart : eqb u t ≡ false = grind (nat_tests, arith, hop.apart) in
    let hopped : Hopped m s cs t u q (hop_along m s q mode t path.0) (onto among.back among.more) = hops m s cs t u q among.back among.more mode path.0 valid there apart rests.once rests.lies among.is room hop.leads_to in
    let at_q : slice_get (cs t) (length among.back) ≡ Some q = ap (λ d. slice_get d (length among.back)) among.is ∙ reads among.back (q ∷ among.more) 0 (length among.back) (omega arith) in
    let within : length among.back < length (cs t) = omega (arith, ap length among.is, length_onto among.back (q ∷ among.more)) in
    let short : length (hop_along m s q mode t path.0) ≤ hop_bound m = omega (
      arith,
      hop_short m s cs t (length (cs t)) q (length among.back) mode path.0 rests.once rests.lies at_q refl within,
      hop.short,
      rests.fits t,
      at_most_greatest m.capacities t,
    ) in
    let same : hop_ops m s q u mode ≡ hop_along m s q mode t path.0 = ap (λ n. hop_along m s q mode n (unwrap_or (hop_path (wiring_of m) n u) [])) place ∙ ap (λ o. hop_along m s q mode t (unwrap_or o [])) path.1 in
    subst (Moved m s cs t u q) (sym same) (moved_by hopped short (hop_plain m s cs t (length (cs t)) q (length among.back) mode path.0 rests.once rests.lies at_q refl within) hop.apart apart (omega (arith, ap length among.is, length_onto among.back (q ∷ among.more), length_onto among.back among.more, hopped.long))
    (λ n. omega (arith, ap (λ d. times_in d n) among.is, times_onto among.back (q ∷ among.more) n, times_onto among.back among.more n, hopped.same n, count_by-cons (λ (r : Qubit). r.0 == n) q among.more)))
  where
    reads : (ra ys : List Qubit) (k n : ℕ) → n ≡ length ra + k → slice_get (onto ra ys) n ≡ slice_get ys k
    reads [] ys k n is = let same : n ≡ k = omega arith in rw same refl
    reads (x ∷ ra) ys k n is = reads ra (x ∷ ys) (suc k) n (omega arith)

    moved_by : {ops : List OpKind} {others : List Qubit} (h : Hopped m s cs t u q ops others) → length ops ≤ hop_bound m → Plain ops → eqb t u ≡ false → eqb u t ≡ false → length h.rest + 1 ≡ length (cs t) → ((n : ℕ) → times_in h.rest n + cond (q.0 == n) 1 0 ≡ times_in (cs t) n) → Moved m s cs t u q ops
    moved_by {ops = ops} h short plain apart back long times =
        let own : moved cs t u q h.end h.rest t ≡ h.rest = moved_t cs t u q h.end h.rest apart in
        let next : moved cs t u q h.end h.rest u ≡ joined h.end q (cs u) = moved_u cs t u q h.end h.rest in
        record {
          run = h.run;
          short = short;
          plain = plain;
          chains = moved cs t u q h.end h.rest;
          rests = record {
            lies = h.lies;
            once = λ n. omega (arith, h.carried n, rests.once n);
            fits = λ v. elim (cases_Bool (eqb v u)) [
              | inl is_u ↦ rw (eqb-true v u is_u, next) (omega (arith, length_joined h.end q (cs u)))
              | inr not_u ↦ elim (cases_Bool (eqb v t)) [
                | inl is_t ↦ rw (eqb-true v t is_t, own) (omega (arith, rests.fits t))
                | inr not_t ↦ rw (moved_other cs t u v q h.end h.rest not_u not_t) (rests.fits v)
              ]
            ];
            each = λ n less. omega (arith, h.carried n, rests.each n (omega (arith, ops_long m s ops)));
          };
          fewer = rw own long;
          more = rw next (length_joined h.end q (cs u));
          others = λ v not_u not_t. moved_other cs t u v q h.end h.rest not_u not_t;
          from = λ n. rw own (times n);
          to = λ n. rw next (omega (arith, times_joined h.end q (cs u) n));
        }

-- ---- one trap hands a qubit on

pub record Hands (m : MachineData) (s : State) (cs : ℕ → List Qubit) (t u : ℕ) (keep : Qubit × Qubit) (ops : List OpKind) : Type 0 where
  pub qubit : Qubit
  pub moves : Moved m s cs t u qubit ops
  pub free : not (is_kept keep qubit) ≡ true

pub hands_one : (m : MachineData) (s : State) (cs : ℕ → List Qubit) (t u : ℕ) (keep : Qubit × Qubit) → Lies s (settled cs) → Apart cs keep → 2 ≤ length (cs t)
    → (q : Qubit) × (handed m s t u keep ≡ Some q) × (not (is_kept keep q) ≡ true) × Among (cs t) q
hands_one m s cs t u keep lies apart two =
    let end : End = leaving_end m t (unwrap_or (hop_path (wiring_of m) t u) []) in
    let p : Qubit → Bool = λ q. not (is_kept keep q) in
    let one : (q : Qubit) × (find p (seen_from end (cs t)) ≡ Some q) × (p q ≡ true) × Among (cs t) q = found_from p end (cs t) (other_there keep (cs t) (omega (arith, apart t))) in
    (one.0, ap (λ c. find p (seen_from end c)) (chain_is s (settled cs) t lies) ∙ one.1, one.2, one.3)

pub handed_there : (m : MachineData) (s : State) (cs : ℕ → List Qubit) (t u : ℕ) (keep : Qubit × Qubit) → Lies s (settled cs) → Apart cs keep → 2 ≤ length (cs t) → is_some (handed m s t u keep) ≡ true
handed_there m s cs t u keep lies apart two = let one = hands_one m s cs t u keep lies apart two in rw one.1 refl

pub hand_moves : (m : MachineData) (s : State) (cs : ℕ → List Qubit) (t u : ℕ) (keep : Qubit × Qubit) (mode : Mode) → IsValid m → has_trap m t ≡ true → Rests m s cs → Apart cs keep → 2 ≤ length (cs t) → are_neighbours (wiring_of m) t u ≡ true
    → length (cs u) < get_or m.capacities u 0 → Hands m s cs t u keep (hand_ops m s keep mode t u)
hand_moves m s cs t u keep mode valid there rests apart two neighbours room =
    let p : Qubit → Bool = λ q. not (is_kept keep q) in
    let one : (q : Qubit) × (handed m s t u keep ≡ Some q) × (p q ≡ true) × Among (cs t) q = hands_one m s cs t u keep rests.lies apart two in
    let q : Qubit = one.0 in
    let is : handed m s t u keep ≡ Some q = one.1 in
    let ops : hand_ops m s keep mode t u ≡ hop_ops m s q u mode = ap (λ o. unwrap_or (option_map (λ q. hop_ops m s q u mode) o) []) is in
    record {
      qubit = q;
      moves = subst (Moved m s cs t u q) (sym ops) (hop_moves m s cs t u q mode valid there rests one.3 neighbours room);
      free = one.2;
    }

-- a qubit that does not move stays
pub moves_times : (m : MachineData) (s : State) (cs : ℕ → List Qubit) (t u : ℕ) (q : Qubit) (ops : List OpKind) (h : Moved m s cs t u q ops) (n v : ℕ) → eqb q.0 n ≡ false → times_in (h.chains v) n ≡ times_in (cs v) n
moves_times m s cs t u q ops h n v off =
    let none : cond {A = ℕ} (eqb q.0 n) 1 0 ≡ 0 = ap (λ b. cond b 1 0) off in
    elim (cases_Bool (eqb v u)) [
      | inl is_u ↦ rw (eqb-true v u is_u) (omega (arith, h.to n))
      | inr not_u ↦ elim (cases_Bool (eqb v t)) [
        | inl is_t ↦ rw (eqb-true v t is_t) (omega (arith, h.from n))
        | inr not_t ↦ ap (λ c. times_in c n) (h.others v not_u not_t)
      ]
    ]

hands_keep : (m : MachineData) (s : State) (cs : ℕ → List Qubit) (t u : ℕ) (keep : Qubit × Qubit) (ops : List OpKind) (h : Hands m s cs t u keep ops) → Keeps cs h.moves.chains keep
hands_keep m s cs t u keep ops h v =
    let off : (eqb h.qubit.0 keep.0.0 ≡ false) × (eqb h.qubit.0 keep.1.0 ≡ false) = not_kept keep h.qubit h.free in
    (moves_times m s cs t u h.qubit ops h.moves keep.0.0 v off.0, moves_times m s cs t u h.qubit ops h.moves keep.1.0 v off.1)

-- ---- the whole way

-- the operations run, trap t has a free slot then, and the kept qubits stay
pub record Roomed (m : MachineData) (s : State) (cs : ℕ → List Qubit) (t n goal : ℕ) (keep : Qubit × Qubit) (ops : List OpKind) : Type 0 where
  pub run : IsRun m s ops
  pub short : length ops ≤ n * hop_bound m
  pub plain : Plain ops
  pub chains : ℕ → List Qubit
  pub rests : Rests m (after m s ops) chains
  pub keeps : Keeps cs chains keep
  pub room : length (chains t) < get_or m.capacities t 0
  pub far : (v : ℕ) → n < distance (wiring_of m) v goal → chains v ≡ cs v

pub way_is : (m : MachineData) (goal n t u : ℕ) → next_hop (wiring_of m) t goal ≡ Some u → way_to m goal (suc n) t ≡ t ∷ way_to m goal n u
way_is m goal n t u is = ap (λ o. t ∷ way_to m goal n (unwrap_or o t)) is

pub hands_way : (m : MachineData) (s : State) (keep : Qubit × Qubit) (mode : Mode) (goal n t u : ℕ) → hands_ops m s keep mode (t ∷ way_to m goal n u) ≡ then_for m s (hands_ops m s keep mode (way_to m goal n u)) (λ z. hand_ops m z keep mode t u)
hands_way m s keep mode goal zero t u = refl
hands_way m s keep mode goal (suc n) t u = refl

keeps_apart : (cs ds : ℕ → List Qubit) (keep : Qubit × Qubit) → Keeps cs ds keep → Apart cs keep → Apart ds keep
keeps_apart cs ds keep keeps apart v = omega (arith, (keeps v).0, (keeps v).1, apart v)

one_more : (n h a b : ℕ) → a ≤ n * h → b ≤ h → a + b ≤ suc n * h
one_more n h a b first second = omega (arith, suc-mul n h)

hand_on : (m : MachineData) (goal : ℕ) (keep : Qubit × Qubit) (mode : Mode) (n t u : ℕ) (s : State) (cs : ℕ → List Qubit) (before : List OpKind) → IsValid m → t < length m.capacities → u < length m.capacities → distance (wiring_of m) t goal ≡ suc n → distance (wiring_of m) u goal ≡ n
    → are_neighbours (wiring_of m) t u ≡ true → Apart cs keep → 2 ≤ length (cs t) → Rests m s cs → Roomed m s cs u n goal keep before
    → Roomed m s cs t (suc n) goal keep (then_for m s before (λ z. hand_ops m z keep mode t u))
hand_on m goal keep mode n t u s cs before valid there u_there far near neighbours apart two rests later =
    let z : State = after m s before in
    let own : later.chains t ≡ cs t = later.far t (omega arith) in
    let h : Hands m z later.chains t u keep (hand_ops m z keep mode t u) = hand_moves m z later.chains t u keep mode valid (lt-ltb t (length m.capacities) there) later.rests (keeps_apart cs later.chains keep later.keeps apart) (rw own two) neighbours later.room in
    let kept : Keeps later.chains h.moves.chains keep = hands_keep m z later.chains t u keep (hand_ops m z keep mode t u) h in
    record {
      run = run_append m s before (hand_ops m z keep mode t u) later.run h.moves.run;
      short = subst (λ k. k ≤ suc n * hop_bound m) (sym (length-append before (hand_ops m z keep mode t u))) (one_more n (hop_bound m) (length before) (length (hand_ops m z keep mode t u)) later.short h.moves.short);
      plain = plain_append before (hand_ops m z keep mode t u) later.plain h.moves.plain;
      chains = h.moves.chains;
      rests = subst (λ y. Rests m y h.moves.chains) (sym (after_append m s before (hand_ops m z keep mode t u))) h.moves.rests;
      keeps = λ v. ((kept v).0 ∙ (later.keeps v).0, (kept v).1 ∙ (later.keeps v).1);
      room = omega (arith, h.moves.fewer, later.rests.fits t);
      far = λ v less. h.moves.others v (ne_eqb v u (λ same. closer v u n near less same)) (ne_eqb v t (λ same. closest v t n far less same)) ∙ later.far v (omega arith);
    }
  where
    closer : (v u n : ℕ) → distance (wiring_of m) u goal ≡ n → suc n < distance (wiring_of m) v goal → v ≡ u → ⊥
    closer v u n near less same = let e : distance (wiring_of m) v goal ≡ distance (wiring_of m) u goal = ap (λ k. distance (wiring_of m) k goal) same in omega arith

    closest : (v t n : ℕ) → distance (wiring_of m) t goal ≡ suc n → suc n < distance (wiring_of m) v goal → v ≡ t → ⊥
    closest v t n far less same = let e : distance (wiring_of m) v goal ≡ distance (wiring_of m) t goal = ap (λ k. distance (wiring_of m) k goal) same in omega arith

pub roomed : (m : MachineData) (goal : ℕ) (keep : Qubit × Qubit) (mode : Mode) → IsValid m → goal < length m.capacities
    → (n t : ℕ) (s : State) (cs : ℕ → List Qubit) → t < length m.capacities → distance (wiring_of m) t goal ≡ n → Rests m s cs → Apart cs keep → length (cs goal) < get_or m.capacities goal 0
    → ((i v : ℕ) → i < n → v < length m.capacities → hops_lead (wiring_of m) v i t ≡ true → 2 ≤ length (cs v))
    → Roomed m s cs t n goal keep (hands_ops m s keep mode (way_to m goal n t))
roomed m goal keep mode valid goal_there zero t s cs there far rests apart free full =
    let d : IsDistance (wiring_of m) t goal (distance (wiring_of m) t goal) = distance_is (wiring_of m) t goal (is_wiring m valid) there goal_there in
    let same : t ≡ goal = eqb-true t goal (subst (λ k. hops_lead (wiring_of m) goal k t ≡ true) far d.leads) in
    record {
      run = tt;
      short = omega arith;
      plain = nothing_plain;
      chains = cs;
      rests = rests;
      keeps = λ v. (refl, refl);
      room = subst (λ k. length (cs k) < get_or m.capacities k 0) (sym same) free;
      far = λ v _. refl;
    }
roomed m goal keep mode valid goal_there (suc n) t s cs there far rests apart free full =
    let apart_goal : t ≡ goal → ⊥ = λ same. no_way m goal n t valid there goal_there far same in
    let some : (u : ℕ) × (next_hop (wiring_of m) t goal ≡ Some u) = next_hop_is (wiring_of m) t goal (is_wiring m valid) there goal_there apart_goal in
    let u : ℕ = some.0 in
    let next : IsNextHop (wiring_of m) t goal u = next_hop_found (wiring_of m) t goal u some.1 in
    let near : distance (wiring_of m) u goal ≡ n = omega (arith, next.nearer) in
    let later : Roomed m s cs u n goal keep (hands_ops m s keep mode (way_to m goal n u)) = roomed m goal keep mode valid goal_there n u s cs next.there near rests apart free
    (λ i v less v_there leads_on. full (suc i) v (omega arith) v_there (in_any_range (λ c. are_neighbours (wiring_of m) t c && hops_lead (wiring_of m) v i c) 0 (length m.capacities) u (and_from (are_neighbours (wiring_of m) t u) (hops_lead (wiring_of m) v i u) next.neighbour leads_on) (omega arith) (omega (arith, next.there)))) in
    subst (Roomed m s cs t (suc n) goal keep) (sym (ap (hands_ops m s keep mode) (way_is m goal n t u some.1) ∙ hands_way m s keep mode goal n t u))
    (hand_on m goal keep mode n t u s cs (hands_ops m s keep mode (way_to m goal n u)) valid there next.there far near next.neighbour apart (full 0 t (omega arith) there (eqb_same t)) rests later)
  where
    no_way : (m : MachineData) (goal n t : ℕ) → IsValid m → t < length m.capacities → goal < length m.capacities → distance (wiring_of m) t goal ≡ suc n → t ≡ goal → ⊥
    no_way m goal n t valid there goal_there far same =
        let d : IsDistance (wiring_of m) t goal (distance (wiring_of m) t goal) = distance_is (wiring_of m) t goal (is_wiring m valid) there goal_there in
        let none : hops_lead (wiring_of m) goal 0 t ≡ false = d.least 0 (omega arith) in
        let own : hops_lead (wiring_of m) goal 0 t ≡ true = rw same (eqb_same goal) in
        cc
