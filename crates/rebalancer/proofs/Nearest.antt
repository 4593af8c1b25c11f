-- There is a nearest trap with a free slot, and every trap nearer is full: so room is made.
use Rattle.std.proofs.Common.{◌≡◌, ℕ, zero, suc, ◌+◌, ◌-◌, ◌*◌, ◌<◌, ◌≤◌, Bool, true, false, cond, ◌&&◌, List, [], ◌∷◌, length, get_or, refl, sym, ◌∙◌, ap, arith, Some, inl, inr, subst, ◌⊎◌}
use Rattle.std.specs.Prelude.{◌==◌, count_by, find, unwrap_or, is_some, nat_lt, sum}
use Rattle.std.specs.List.{range_with_len}
use Rattle.std.proofs.lemmas.List.Sums.{count_by-le-length, sum_by-cons}
use Rattle.std.proofs.Math.Nat.{mul-le-mul_right}
use Rattle.std.proofs.lemmas.Bool.{cases_Bool, cases_lt, and_parts, and_from, eqb-true, eq-eqb, lt-ltb, ltb-true, ltb-false, false≢true}
use Rattle.std.proofs.lemmas.Bool.Decides.{nat_tests}
use Rattle.qccd_base.specs.declared.names.Qubit.{Qubit}
use Rattle.qccd_base.specs.declared.names.Mode.{Mode}
use Rattle.qccd_machine.specs.Machine.{MachineData, IsValid, hop_bound}
use Rattle.op_table.specs.declared.kinds.OpKind.{OpKind}
use Rattle.op_table.specs.State.{IonPlace, InTrap, OnSegment, InJunction, Stand, State, ions_in, is_in_trap}
use Rattle.op_table.specs.Run.{IsRun, after}
use Rattle.router.specs.Paths.{first_of}
use Rattle.router.specs.Hops.{hops_lead, distance}
use Rattle.rebalancer.specs.Room.{has_room, nearest, IsNearest, hands_ops, way_to, room_ops}
use Rattle.router.proofs.Search.{FirstIn, first_range, firsts_range, find_range, found_range, some_of}
use Rattle.router.proofs.Distances.{IsDistance, distance_is}
use Rattle.chain_reorder.proofs.Lists.{count_by-cons}
use Rattle.rebalancer.proofs.Plain.{Plain}
use Rattle.rebalancer.proofs.Room.{Rests, Apart, Keeps, Roomed, roomed, is_wiring}
use Rattle.router.specs.Wiring.{wiring_of}

pub nearest_is : (m : MachineData) (s : State) (t free : ℕ) → IsValid m → t < length m.capacities → free < length m.capacities → has_room m s free ≡ true → (goal : ℕ) × (nearest m s t ≡ Some goal) × IsNearest m s t goal
unfolding nearest
nearest_is m s t free valid there free_there room =
    let traps : ℕ = length m.capacities in
    let at : ℕ → ℕ → Bool = λ n u. has_room m s u && (distance (wiring_of m) t u == n) in
    let found_at : (n u : ℕ) → at n u ≡ true → u < traps → is_some (find (at n) (range_with_len 0 traps)) ≡ true = λ n u passes below. found_range (at n) 0 traps u passes (omega arith) (omega arith) in
    let some : is_some (first_of (λ n. find (at n) (range_with_len 0 traps)) (range_with_len 0 traps)) ≡ true =
    firsts_range (λ n. find (at n) (range_with_len 0 traps)) 0 traps (distance (wiring_of m) t free)
    (found_at (distance (wiring_of m) t free) free (and_from (has_room m s free) (distance (wiring_of m) t free == distance (wiring_of m) t free) room (eq-eqb (distance (wiring_of m) t free) (distance (wiring_of m) t free) refl)) free_there)
    (omega arith) (omega (arith, (distance_is (wiring_of m) t free (is_wiring m valid) there free_there).below)) in
    let goal = some_of (first_of (λ n. find (at n) (range_with_len 0 traps)) (range_with_len 0 traps)) some in
    let first = first_range (λ n. find (at n) (range_with_len 0 traps)) 0 traps goal.0 goal.1 in
    let in_traps : FirstIn (at first.0) 0 traps goal.0 = find_range (at first.0) 0 traps goal.0 first.1 in
    let parts : (has_room m s goal.0 ≡ true) × ((distance (wiring_of m) t goal.0 == first.0) ≡ true) = and_parts (has_room m s goal.0) (distance (wiring_of m) t goal.0 == first.0) in_traps.passes in
    let far : distance (wiring_of m) t goal.0 ≡ first.0 = eqb-true (distance (wiring_of m) t goal.0) first.0 parts.1 in (
      goal.0,
      goal.1,
      record {
        there = omega (arith, in_traps.below);
        room = parts.0;
        nearer_full = λ v v_there nearer. elim (cases_Bool (has_room m s v)) [
          | inl has ↦ absurd (false≢true (sym (first.2.first (distance (wiring_of m) t v) (omega arith) (omega arith))
              ∙ found_at (distance (wiring_of m) t v) v (and_from (has_room m s v) (distance (wiring_of m) t v == distance (wiring_of m) t v) has (eq-eqb (distance (wiring_of m) t v) (distance (wiring_of m) t v) refl)) v_there))
          | inr full ↦ full
        ];
        lesser_full = λ v lesser same. elim (cases_Bool (has_room m s v)) [
          | inl has ↦ absurd (false≢true (sym (in_traps.first v (omega arith) lesser) ∙ and_from (has_room m s v) (distance (wiring_of m) t v == first.0) has (eq-eqb (distance (wiring_of m) t v) first.0 (same ∙ far))))
          | inr full ↦ full
        ];
      },
    )

-- the operations run and leave trap t with a free slot, where some trap has one
pub record Made (m : MachineData) (s : State) (cs : ℕ → List Qubit) (t : ℕ) (keep : Qubit × Qubit) (ops : List OpKind) : Type 0 where
  pub run : IsRun m s ops
  pub short : length ops ≤ (length m.capacities - 1) * hop_bound m
  pub plain : Plain ops
  pub chains : ℕ → List Qubit
  pub rests : Rests m (after m s ops) chains
  pub keeps : Keeps cs chains keep
  pub room : length (chains t) < get_or m.capacities t 0

fewer_hops : (n k h c : ℕ) → n ≤ k * h → k ≤ c → n ≤ c * h
fewer_hops n k h c short less = let more : k * h ≤ c * h = mul-le-mul_right h less in omega arith

pub room_made : (m : MachineData) (s : State) (cs : ℕ → List Qubit) (t free : ℕ) (keep : Qubit × Qubit) (mode : Mode) → IsValid m → t < length m.capacities → free < length m.capacities → has_room m s free ≡ true
    → Rests m s cs → Apart cs keep → Made m s cs t keep (room_ops m s t keep mode)
unfolding room_ops
room_made m s cs t free keep mode valid there free_there room rests apart =
    let goal : (goal : ℕ) × (nearest m s t ≡ Some goal) × IsNearest m s t goal = nearest_is m s t free valid there free_there room in
    let d : IsDistance (wiring_of m) t goal.0 (distance (wiring_of m) t goal.0) = distance_is (wiring_of m) t goal.0 (is_wiring m valid) there goal.2.there in
    let free_goal : length (cs goal.0) < get_or m.capacities goal.0 0 = omega (arith, rests.lies.counts goal.0, ltb-true (ions_in s goal.0) (get_or m.capacities goal.0 0) goal.2.room) in
    let full : (i v : ℕ) → i < distance (wiring_of m) t goal.0 → v < length m.capacities → hops_lead (wiring_of m) v i t ≡ true → 2 ≤ length (cs v) = λ i v less v_there leads_on.
    let far : IsDistance (wiring_of m) t v (distance (wiring_of m) t v) = distance_is (wiring_of m) t v (is_wiring m valid) there v_there in
    let at_most : distance (wiring_of m) t v ≤ i = elim (cases_lt i (distance (wiring_of m) t v)) [ inl more ↦ absurd (false≢true (sym (far.least i more) ∙ leads_on)) | inr less ↦ less ] in
    let no_room : has_room m s v ≡ false = goal.2.nearer_full v v_there (omega arith) in
    let two : 2 ≤ get_or m.capacities v 0 = (valid.capacities v 0 v_there).0 in
    omega (arith, rests.lies.counts v, ltb-false (ions_in s v) (get_or m.capacities v 0) no_room) in
    let made : Roomed m s cs t (distance (wiring_of m) t goal.0) goal.0 keep (hands_ops m s keep mode (way_to m goal.0 (distance (wiring_of m) t goal.0) t)) = roomed m goal.0 keep mode valid goal.2.there (distance (wiring_of m) t goal.0) t s cs there refl rests apart free_goal full in
    let same : room_ops m s t keep mode ≡ hands_ops m s keep mode (way_to m goal.0 (distance (wiring_of m) t goal.0) t) = ap (λ o. hands_ops m s keep mode (way_to m (unwrap_or o t) (distance (wiring_of m) t (unwrap_or o t)) t)) goal.1 in
    subst (Made m s cs t keep) (sym same) (record {
      run = made.run;
      short = fewer_hops (length (hands_ops m s keep mode (way_to m goal.0 (distance (wiring_of m) t goal.0) t))) (distance (wiring_of m) t goal.0) (hop_bound m) (length m.capacities - 1) made.short (omega (arith, d.below));
      plain = made.plain;
      chains = made.chains;
      rests = made.rests;
      keeps = made.keeps;
      room = made.room;
    })

-- ---- some trap has a free slot

abbrev pub sum_below : List ℕ → ℕ → ℕ
sum_below caps zero = 0
sum_below caps (suc n) = sum_below caps n + get_or caps n 0

sum_more : (x : ℕ) (xs : List ℕ) (n : ℕ) → sum_below (x ∷ xs) (suc n) ≡ x + sum_below xs n
sum_more x xs zero = omega arith
sum_more x xs (suc n) = omega (arith, sum_more x xs n)

sum_is : (caps : List ℕ) → sum_below caps (length caps) ≡ sum caps
sum_is [] = refl
sum_is (x ∷ xs) = omega (arith, sum_more x xs (length xs), sum_is xs, sum_by-cons (λ (n : ℕ). n) x xs)

-- the ions in the first n traps
abbrev pub is_below : ℕ → IonPlace → Bool
is_below n (InTrap t k) = nat_lt t n
is_below n (OnSegment g e h) = false
is_below n (InJunction j h) = false

below_next : (n : ℕ) (place : IonPlace) → cond {A = ℕ} (is_below (suc n) place) 1 0 ≡ cond (is_below n place) 1 0 + cond (is_in_trap n place) 1 0
below_next n (InTrap t k) = grind (arith, nat_tests)
below_next n (OnSegment g e h) = refl
below_next n (InJunction j h) = refl

count_next : (n : ℕ) (ions : List Stand) → count_by (λ (w : Stand). is_below (suc n) w.place) ions ≡ count_by (λ (w : Stand). is_below n w.place) ions + count_by (λ (w : Stand). is_in_trap n w.place) ions
count_next n [] = refl
count_next n (w ∷ ions) = omega (
  arith,
  count_next n ions,
  below_next n w.place,
  count_by-cons (λ (w : Stand). is_below (suc n) w.place) w ions,
  count_by-cons (λ (w : Stand). is_below n w.place) w ions,
  count_by-cons (λ (w : Stand). is_in_trap n w.place) w ions,
)

-- where no trap below n has a free slot, their places are all taken
all_taken : (caps : List ℕ) (s : State) (n : ℕ) → ((t : ℕ) → t < n → get_or caps t 0 ≤ ions_in s t) → sum_below caps n ≤ count_by (λ (w : Stand). is_below n w.place) s.ions
all_taken caps s zero full = omega arith
all_taken caps s (suc n) full = omega (arith, all_taken caps s n (λ t less. full t (omega arith)), full n (omega arith), count_next n s.ions)

free_or_full : (caps : List ℕ) (s : State) (n : ℕ) → ((t : ℕ) × (t < n) × (ions_in s t < get_or caps t 0)) ⊎ ((t : ℕ) → t < n → get_or caps t 0 ≤ ions_in s t)
free_or_full caps s zero = inr (λ t less. absurd (omega arith))
free_or_full caps s (suc n) = elim (cases_lt (ions_in s n) (get_or caps n 0)) [
  | inl free ↦ inl (n, omega arith, free)
  | inr full ↦ elim (free_or_full caps s n) [
    | inl free ↦ inl (free.0, omega (arith, free.1), free.2)
    | inr all ↦ inr (λ t less. elim (cases_lt t n) [ inl before ↦ all t before | inr not_before ↦ (let same : t ≡ n = omega arith in subst (λ v. get_or caps v 0 ≤ ions_in s v) (sym same) full) ])
  ]
]

-- where there are fewer ions than places, some trap has a free slot
pub free_trap : (m : MachineData) (s : State) → length s.ions < sum m.capacities → (t : ℕ) × (t < length m.capacities) × (has_room m s t ≡ true)
free_trap m s fewer = elim (free_or_full m.capacities s (length m.capacities)) [
  | inl free ↦ (free.0, free.1, lt-ltb (ions_in s free.0) (get_or m.capacities free.0 0) free.2)
  | inr full ↦ absurd (omega (arith, all_taken m.capacities s (length m.capacities) full, sum_is m.capacities, count_by-le-length (λ (w : Stand). is_below (length m.capacities) w.place) s.ions))
]
