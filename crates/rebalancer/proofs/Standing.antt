-- Where each qubit stands, where nothing is outside the traps.
use Rattle.std.proofs.Common.{◌≡◌, ℕ, zero, suc, ◌<◌, ◌≤◌, Bool, true, cond, eqb, List, [], ◌∷◌, map, length, get_or, refl, sym, ◌∙◌, ap, arith, Option, Some, None, inl, inr, subst}
use Rattle.std.specs.Prelude.{◌==◌, count_by, filter, slice_get}
use Rattle.std.proofs.lemmas.Bool.{cases_Bool, cases_lt, and_from, eqb-true, eq-eqb}
use Rattle.std.proofs.lemmas.Option.{slice_get_within, none-some}
use Rattle.std.proofs.lemmas.List.{get_or_past}
use Rattle.qccd_base.specs.declared.names.Qubit.{Qubit}
use Rattle.qccd_machine.specs.Machine.{MachineData}
use Rattle.op_table.specs.State.{IonPlace, InTrap, OnSegment, InJunction, Stand, State, is_at, is_on_segment, is_in_junction}
use Rattle.op_plan.specs.Place.{trap_of, position_of}
use Rattle.chain_reorder.specs.Layout.{settled, listed, riding}
use Rattle.chain_reorder.proofs.Lists.{count_by-cons}
use Rattle.chain_reorder.proofs.Reorder.{onto, times_in}
use Rattle.rebalancer.proofs.Hopped.{stands_in}
use Rattle.rebalancer.proofs.Room.{Rests, Apart, Among}

-- ---- a qubit that is in a chain

pub record At (xs : List Qubit) (n : ℕ) : Type 0 where
  pub index : ℕ
  pub qubit : Qubit
  pub there : slice_get xs index ≡ Some qubit
  pub is : qubit.0 ≡ n

abbrev at_next : (x : Qubit) (xs : List Qubit) (n : ℕ) → At xs n → At (x ∷ xs) n
at_next x xs n at = record { index = suc at.index; qubit = at.qubit; there = at.there; is = at.is }

pub at_times : (xs : List Qubit) (n : ℕ) → 1 ≤ times_in xs n → At xs n
at_times [] n some = absurd (omega arith)
at_times (x ∷ xs) n some = elim (cases_Bool (eqb x.0 n)) [
  | inl here ↦ record { index = 0; qubit = x; there = refl; is = eqb-true x.0 n here }
  | inr not_here ↦
      let none : cond {A = ℕ} (eqb x.0 n) 1 0 ≡ 0 = ap (λ b. cond b 1 0) not_here in
      at_next x xs n (at_times xs n (omega (arith, count_by-cons (λ (q : Qubit). q.0 == n) x xs)))
]

-- and twice: at two indexes
at_twice : (xs : List Qubit) (n : ℕ) → 2 ≤ times_in xs n → (a : At xs n) × (b : At xs n) × (a.index < b.index)
at_twice [] n some = absurd (omega arith)
at_twice (x ∷ xs) n some = elim (cases_Bool (eqb x.0 n)) [
  | inl here ↦
      let one : cond {A = ℕ} (eqb x.0 n) 1 0 ≡ 1 = ap (λ b. cond b 1 0) here in
      let later : At xs n = at_times xs n (omega (arith, count_by-cons (λ (q : Qubit). q.0 == n) x xs)) in
      (record { index = 0; qubit = x; there = refl; is = eqb-true x.0 n here }, at_next x xs n later, omega arith)
  | inr not_here ↦
      let none : cond {A = ℕ} (eqb x.0 n) 1 0 ≡ 0 = ap (λ b. cond b 1 0) not_here in
      let both : (a : At xs n) × (b : At xs n) × (a.index < b.index) = at_twice xs n (omega (arith, count_by-cons (λ (q : Qubit). q.0 == n) x xs)) in
      (at_next x xs n both.0, at_next x xs n both.1, omega (arith, both.2))
]

pub among_at : (xs : List Qubit) (q : Qubit) → At xs q.0 → Among xs q
among_at xs q at = from [] xs at.index (at.there ∙ ap (λ (n : ℕ). Some (record { 0 = n })) at.is)
  where
    from : (ra xs : List Qubit) (k : ℕ) → slice_get xs k ≡ Some q → Among (onto ra xs) q
    from ra [] k is = cc
    from ra (x ∷ xs) zero is = let same : x ≡ q = cc in record { back = ra; more = xs; is = ap (λ z. onto ra (z ∷ xs)) same }
    from ra (x ∷ xs) (suc k) is = from (x ∷ ra) xs k is

-- where it stands
pub stands_at : (m : MachineData) (s : State) (cs : ℕ → List Qubit) (t : ℕ) (q : Qubit) (at : At (cs t) q.0) → Rests m s cs → (trap_of s q ≡ t) × (position_of s q ≡ at.index)
stands_at m s cs t q at rests = stands_in s (settled cs) t at.index q rests.once rests.lies (at.there ∙ ap (λ (n : ℕ). Some (record { 0 = n })) at.is)

pub stands_once : (m : MachineData) (s : State) (cs : ℕ → List Qubit) (t : ℕ) (q : Qubit) → Rests m s cs → times_in (cs t) q.0 ≤ 1
stands_once m s cs t q rests = elim (cases_lt 1 (times_in (cs t) q.0)) [
  | inr few ↦ few
  | inl twice ↦
      let both : (a : At (cs t) q.0) × (b : At (cs t) q.0) × (a.index < b.index) = at_twice (cs t) q.0 twice in
      let first : position_of s q ≡ both.0.index = (stands_at m s cs t q both.0 rests).1 in
      let second : position_of s q ≡ both.1.index = (stands_at m s cs t q both.1 rests).1 in
      absurd (omega (arith, both.2))
]

pub stands_where : (m : MachineData) (s : State) (cs : ℕ → List Qubit) (t : ℕ) (q : Qubit) → Rests m s cs → 1 ≤ times_in (cs t) q.0 → trap_of s q ≡ t
stands_where m s cs t q rests some = (stands_at m s cs t q (at_times (cs t) q.0 some) rests).0

-- two qubits in two traps are apart
pub apart_from : (m : MachineData) (s : State) (cs : ℕ → List Qubit) (a b : Qubit) → Rests m s cs → (trap_of s a ≡ trap_of s b → ⊥) → Apart cs (a, b)
apart_from m s cs a b rests differ t = elim (cases_lt 0 (times_in (cs t) a.0)) [
  | inl has_a ↦ elim (cases_lt 0 (times_in (cs t) b.0)) [
    | inl has_b ↦ absurd (differ (stands_where m s cs t a rests has_a ∙ sym (stands_where m s cs t b rests has_b)))
    | inr no_b ↦ omega (arith, stands_once m s cs t a rests)
  ]
  | inr no_a ↦ omega (arith, stands_once m s cs t b rests)
]

-- ---- every qubit stands in some trap

listed_one : {Z : Type 0} (o : Option Z) (z : Z) (zs : List Z) → z ∷ zs ≡ listed o → (o ≡ Some z) × (zs ≡ [])
listed_one None z zs is = cc
listed_one (Some y) z zs is = (cc, cc)

-- an element that passes is the one that is viewed
in_listed : {X Z : Type 0} (v : X → Z) (r : X → Bool) (xs : List X) (k : ℕ) (x : X) (o : Option Z) → slice_get xs k ≡ Some x → r x ≡ true → map v (filter r xs) ≡ listed o → o ≡ Some (v x)
in_listed v r [] k x o there passes is = cc
in_listed v r (y ∷ xs) zero x o there passes is =
    let same : y ≡ x = cc in
    (listed_one o (v x) (map v (filter r xs)) (subst (λ z. v z ∷ map v (filter r xs) ≡ listed o) same (rw (subst (λ z. r z ≡ true) (sym same) passes) at is))).0
in_listed {Z = Z} v r (y ∷ xs) (suc k) x o there passes is = elim (cases_Bool (r y)) [
  | inl first ↦
      let one : (o ≡ Some (v y)) × (map v (filter r xs) ≡ []) = listed_one o (v y) (map v (filter r xs)) (rw first at is) in
      absurd (none-some (v x) (in_listed v r xs k x None there passes one.1))
  | inr not_y ↦ in_listed v r xs k x o there passes (rw not_y at is)
]

-- where some pass, there is one that does
some_passes : {X : Type 0} (p : X → Bool) (xs : List X) → 1 ≤ count_by p xs → (x : X) × (k : ℕ) × (slice_get xs k ≡ Some x) × (p x ≡ true)
some_passes p [] some = absurd (omega arith)
some_passes p (x ∷ xs) some = elim (cases_Bool (p x)) [
  | inl is ↦ (x, 0, refl, is)
  | inr not_x ↦
      let none : cond {A = ℕ} (p x) 1 0 ≡ 0 = ap (λ b. cond b 1 0) not_x in
      next_passes p x xs (some_passes p xs (omega (arith, count_by-cons p x xs)))
]
  where
    next_passes : {X : Type 0} (p : X → Bool) (x : X) (xs : List X) → (y : X) × (k : ℕ) × (slice_get xs k ≡ Some y) × (p y ≡ true) → (y : X) × (k : ℕ) × (slice_get (x ∷ xs) k ≡ Some y) × (p y ≡ true)
    next_passes p x xs (y, k, there, is) = (y, suc k, there, is)

times_at : (xs : List Qubit) (k : ℕ) (q : Qubit) → slice_get xs k ≡ Some q → 1 ≤ times_in xs q.0
times_at [] k q is = cc
times_at (x ∷ xs) zero q is =
    let same : x ≡ q = cc in
    let one : cond {A = ℕ} (eqb x.0 q.0) 1 0 ≡ 1 = ap (λ b. cond b 1 0) (eq-eqb x.0 q.0 (ap (λ (r : Qubit). r.0) same)) in
    omega (arith, count_by-cons (λ (r : Qubit). r.0 == q.0) x xs)
times_at (x ∷ xs) (suc k) q is = omega (arith, times_at xs k q is, count_by-cons (λ (r : Qubit). r.0 == q.0) x xs)

-- a trap that is there
pub record Somewhere (m : MachineData) (cs : ℕ → List Qubit) (n : ℕ) : Type 0 where
  pub trap : ℕ
  pub there : trap < length m.capacities
  pub stands : 1 ≤ times_in (cs trap) n

somewhere_by : (m : MachineData) (s : State) (cs : ℕ → List Qubit) (k : ℕ) (place : IonPlace) (q : Qubit) → Rests m s cs → slice_get s.ions k ≡ Some (record { place = place; qubit = q }) → Somewhere m cs q.0
somewhere_by m s cs k (InTrap t i) q rests there =
    let at : slice_get (cs t) i ≡ Some q = in_listed (λ (w : Stand). w.qubit) (λ (w : Stand). is_at t i w.place) s.ions k (record { place = InTrap t i; qubit = q }) (slice_get (cs t) i) there
    (and_from (eqb t t) (eqb i i) (eq-eqb t t refl) (eq-eqb i i refl)) (rests.lies.chains t i) in
    let within : i < length (cs t) = slice_get_within (cs t) i q at in
    record {
      trap = t;
      there = elim (cases_lt t (length m.capacities)) [
        | inl less ↦ less
        | inr past ↦ absurd (let none : get_or m.capacities t 0 ≡ 0 = get_or_past m.capacities t 0 past in omega (arith, rests.fits t))
      ];
      stands = times_at (cs t) i q at;
    }
somewhere_by m s cs k (OnSegment g e h) q rests there =
    absurd (none-some (e, q) (in_listed riding (λ (w : Stand). is_on_segment g w.place) s.ions k (record { place = OnSegment g e h; qubit = q }) None there (eq-eqb g g refl) (rests.lies.riders g)))
somewhere_by m s cs k (InJunction j h) q rests there =
    absurd (none-some q (in_listed (λ (w : Stand). w.qubit) (λ (w : Stand). is_in_junction j w.place) s.ions k (record { place = InJunction j h; qubit = q }) None there (eq-eqb j j refl) (rests.lies.carries j)))

pub somewhere : (m : MachineData) (s : State) (cs : ℕ → List Qubit) (n : ℕ) → Rests m s cs → n < length s.ions → Somewhere m cs n
somewhere m s cs n rests less =
    let one : (w : Stand) × (k : ℕ) × (slice_get s.ions k ≡ Some w) × ((w.qubit.0 == n) ≡ true) = some_passes (λ (w : Stand). w.qubit.0 == n) s.ions (rests.each n less) in
    subst (Somewhere m cs) (eqb-true one.0.qubit.0 n one.3) (somewhere_by m s cs one.1 one.0.place one.0.qubit rests one.2)
