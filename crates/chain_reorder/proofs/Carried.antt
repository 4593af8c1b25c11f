-- Operations take no qubit away and double none.
use Rattle.std.proofs.Common.{◌≡◌, ℕ, ◌+◌, Bool, true, false, cond, eqb, ◌&&◌, List, [], ◌∷◌, map, refl, sym, ◌∙◌, ap, arith, Some, inl, inr}
use Rattle.std.specs.Prelude.{◌==◌, count_by, filter}
use Rattle.std.specs.List.{list_all, AllByRecursion}
use Rattle.std.proofs.lemmas.Bool.{cases_Bool, and_parts}
use Rattle.qccd_base.specs.declared.names.Qubit.{Qubit}
use Rattle.qccd_machine.specs.Machine.{MachineData}
use Rattle.op_table.specs.declared.kinds.OpKind.{OpKind}
use Rattle.op_table.specs.declared.kinds.OpKind.TheVariants.{Split, Move, Enter, Leave, Merge, Rot, GSwap, Item, Fence}
use Rattle.op_table.specs.State.{Stand, State, is_at, qubit_at}
use Rattle.op_table.specs.Step.{effect}
use Rattle.op_table.specs.Run.{after}
use Rattle.chain_reorder.proofs.Lists.{count_seen, count_by-cons}
use Rattle.chain_reorder.proofs.Swapping.{exchanging, not_there}

-- how many ions carry the qubit of a number
abbrev pub carriers : List Stand → ℕ → ℕ
carriers ions n = count_by (λ (w : Stand). w.qubit.0 == n) ions

abbrev pub Carried : State → State → Type 0
Carried s z = (n : ℕ) → carriers z.ions n ≡ carriers s.ions n

abbrev pub no_swap : OpKind → Bool
no_swap (Split t e g) = true
no_swap (Move g) = true
no_swap (Enter g j) = true
no_swap (Leave j g) = true
no_swap (Merge g t e) = true
no_swap (Rot t p) = true
no_swap (GSwap t low high) = false
no_swap (Item number t item at) = true
no_swap (Fence number item traps) = true

placed_carried : (f : Stand → Stand) (ions : List Stand) → ((w : Stand) → (f w).qubit ≡ w.qubit) → (n : ℕ) → carriers (map f ions) n ≡ carriers ions n
placed_carried f ions same n = count_seen (λ (w : Stand). w.qubit.0 == n) f ions (λ w. ap (λ (q : Qubit). q.0 == n) (same w))

pub op_carried : (m : MachineData) (s : State) (op : OpKind) → no_swap op ≡ true → Carried s (effect m s op)
op_carried m s (Split t e g) h n = placed_carried _ s.ions (λ w. refl) n
op_carried m s (Move g) h n = placed_carried _ s.ions (λ w. refl) n
op_carried m s (Enter g j) h n = placed_carried _ s.ions (λ w. refl) n
op_carried m s (Leave j g) h n = placed_carried _ s.ions (λ w. refl) n
op_carried m s (Merge g t e) h n = placed_carried _ s.ions (λ w. refl) n
op_carried m s (Rot t p) h n = placed_carried _ s.ions (λ w. refl) n
op_carried m s (GSwap t low high) h n = cc
op_carried m s (Item number t item at) h n = refl
op_carried m s (Fence number item traps) h n = refl

pub ops_carried : (m : MachineData) (s : State) (ops : List OpKind) → list_all no_swap ops ≡ true → Carried s (after m s ops)
ops_carried m s [] h n = refl
ops_carried m s (op ∷ ops) h n =
    let parts : (no_swap op ≡ true) × (list_all no_swap ops ≡ true) = and_parts (no_swap op) (list_all no_swap ops) h in
    ops_carried m (effect m s op) ops parts.1 n ∙ op_carried m s op parts.0 n

-- the ions at the two positions carry a and b
abbrev pub Carry : ℕ → ℕ → ℕ → Qubit → Qubit → Stand → Type 0
Carry t low high a b w = (is_at t low w.place ≡ true → w.qubit ≡ a) × (is_at t high w.place ≡ true → w.qubit ≡ b)

-- of each ion: what it carries then and now
weighed : (s : State) (t low high : ℕ) (a b : Qubit) (n : ℕ) (w : Stand) → eqb low high ≡ false → qubit_at s t low ≡ Some a → qubit_at s t high ≡ Some b → Carry t low high a b w
    → cond ((exchanging s t low high w).qubit.0 == n) 1 0 + (cond (is_at t low w.place && (a.0 == n)) 1 0 + cond (is_at t high w.place && (b.0 == n)) 1 0)
    ≡ cond (w.qubit.0 == n) 1 0 + (cond (is_at t low w.place && (b.0 == n)) 1 0 + cond (is_at t high w.place && (a.0 == n)) 1 0)
weighed s t low high a b n w apart at_low at_high carry = elim (cases_Bool (is_at t low w.place)) [
  | inl is_low ↦
      let not_high : is_at t high w.place ≡ false = not_there t low high w.place apart is_low in
      let now : (exchanging s t low high w).qubit ≡ b = rw (is_low, at_high) refl in
      let was : w.qubit ≡ a = carry.0 is_low in
      rw (now, was, is_low, not_high) (omega arith)
  | inr not_low ↦ elim (cases_Bool (is_at t high w.place)) [
    | inl is_high ↦
        let now : (exchanging s t low high w).qubit ≡ a = rw (not_low, is_high, at_low) refl in
        let was : w.qubit ≡ b = carry.1 is_high in
        rw (now, was, is_high, not_low) (omega arith)
    | inr not_high ↦
        let now : (exchanging s t low high w).qubit ≡ w.qubit = rw (not_low, not_high) refl in
        rw (now, not_low, not_high) (omega arith)
  ]
]

counted_both : {X : Type 0} (p : X → Bool) (c : Bool) (xs : List X) → count_by (λ x. p x && c) xs ≡ cond c (count_by p xs) 0
counted_both p c [] = elim (cases_Bool c) [ inl is ↦ rw is refl | inr not_c ↦ rw not_c refl ]
counted_both p true (x ∷ xs) = omega (arith, counted_both p true xs, count_by-cons (λ x. p x && true) x xs, count_by-cons p x xs, same (p x))
  where
    same : (b : Bool) → cond {A = ℕ} (b && true) 1 0 ≡ cond b 1 0
    same true = refl
    same false = refl
counted_both p false (x ∷ xs) = omega (arith, counted_both p false xs, count_by-cons (λ x. p x && false) x xs, none (p x))
  where
    none : (b : Bool) → cond {A = ℕ} (b && false) 1 0 ≡ 0
    none true = refl
    none false = refl

sum_weighed : (s : State) (t low high : ℕ) (a b : Qubit) (n : ℕ) (ions : List Stand) → eqb low high ≡ false → qubit_at s t low ≡ Some a → qubit_at s t high ≡ Some b → AllByRecursion (Carry t low high a b) ions
    → carriers (map (exchanging s t low high) ions) n + (count_by (λ (w : Stand). is_at t low w.place && (a.0 == n)) ions + count_by (λ (w : Stand). is_at t high w.place && (b.0 == n)) ions)
    ≡ carriers ions n + (count_by (λ (w : Stand). is_at t low w.place && (b.0 == n)) ions + count_by (λ (w : Stand). is_at t high w.place && (a.0 == n)) ions)
sum_weighed s t low high a b n [] apart at_low at_high each = refl
sum_weighed s t low high a b n (w ∷ ions) apart at_low at_high each = omega (
  arith,
  sum_weighed s t low high a b n ions apart at_low at_high each.1,
  weighed s t low high a b n w apart at_low at_high each.0,
  count_by-cons (λ (w : Stand). w.qubit.0 == n) (exchanging s t low high w) (map (exchanging s t low high) ions),
  count_by-cons (λ (w : Stand). w.qubit.0 == n) w ions,
  count_by-cons (λ (w : Stand). is_at t low w.place && (a.0 == n)) w ions,
  count_by-cons (λ (w : Stand). is_at t high w.place && (b.0 == n)) w ions,
  count_by-cons (λ (w : Stand). is_at t low w.place && (b.0 == n)) w ions,
  count_by-cons (λ (w : Stand). is_at t high w.place && (a.0 == n)) w ions,
)

all_carry : (t k : ℕ) (a : Qubit) (ions : List Stand) → map (λ (w : Stand). w.qubit) (filter (λ (w : Stand). is_at t k w.place) ions) ≡ a ∷ [] → AllByRecursion (λ (w : Stand). is_at t k w.place ≡ true → w.qubit ≡ a) ions
all_carry t k a [] is = tt
all_carry t k a (w ∷ ions) is = elim (cases_Bool (is_at t k w.place)) [
  | inl here ↦
      let e : w.qubit ∷ map (λ (w : Stand). w.qubit) (filter (λ (w : Stand). is_at t k w.place) ions) ≡ a ∷ [] = rw here at is in
      let first : w.qubit ≡ a = cc in
      let none : map (λ (w : Stand). w.qubit) (filter (λ (w : Stand). is_at t k w.place) ions) ≡ [] = cc in
      ((λ _. first), all_none ions none)
  | inr not_here ↦ ((λ here. absurd (let bad : false ≡ true = sym not_here ∙ here in cc)), all_carry t k a ions (rw not_here at is))
]
  where
    all_none : (ions : List Stand) → map (λ (w : Stand). w.qubit) (filter (λ (w : Stand). is_at t k w.place) ions) ≡ [] → AllByRecursion (λ (w : Stand). is_at t k w.place ≡ true → w.qubit ≡ a) ions
    all_none [] none = tt
    all_none (v ∷ ions) none = elim (cases_Bool (is_at t k v.place)) [
      | inl here ↦ absurd (let e : v.qubit ∷ map (λ (w : Stand). w.qubit) (filter (λ (w : Stand). is_at t k w.place) ions) ≡ [] = rw here at none in cc)
      | inr not_here ↦ ((λ here. absurd (let bad : false ≡ true = sym not_here ∙ here in cc)), all_none ions (rw not_here at none))
    ]

both_all : {X : Type 0} (P Q : X → Type 0) (xs : List X) → AllByRecursion P xs → AllByRecursion Q xs → AllByRecursion (λ x. P x × Q x) xs
both_all P Q [] first second = tt
both_all P Q (x ∷ xs) first second = ((first.0, second.0), both_all P Q xs first.1 second.1)

pub swap_carried : (s z : State) (t low high : ℕ) (a b : Qubit) → z.ions ≡ map (exchanging s t low high) s.ions → eqb low high ≡ false → qubit_at s t low ≡ Some a → qubit_at s t high ≡ Some b
    → map (λ (w : Stand). w.qubit) (filter (λ (w : Stand). is_at t low w.place) s.ions) ≡ a ∷ [] → map (λ (w : Stand). w.qubit) (filter (λ (w : Stand). is_at t high w.place) s.ions) ≡ b ∷ []
    → count_by (λ (w : Stand). is_at t low w.place) s.ions ≡ 1 → count_by (λ (w : Stand). is_at t high w.place) s.ions ≡ 1
    → Carried s z
swap_carried s z t low high a b is apart at_low at_high only_low only_high one_low one_high n =
    let each : AllByRecursion (Carry t low high a b) s.ions = both_all _ _ s.ions (all_carry t low a s.ions only_low) (all_carry t high b s.ions only_high) in
    let sums = sum_weighed s t low high a b n s.ions apart at_low at_high each in
    let low_a : count_by (λ (w : Stand). is_at t low w.place && (a.0 == n)) s.ions ≡ cond (a.0 == n) 1 0 = counted_both (λ (w : Stand). is_at t low w.place) (a.0 == n) s.ions ∙ ap (λ c. cond (a.0 == n) c 0) one_low in
    let high_b : count_by (λ (w : Stand). is_at t high w.place && (b.0 == n)) s.ions ≡ cond (b.0 == n) 1 0 = counted_both (λ (w : Stand). is_at t high w.place) (b.0 == n) s.ions ∙ ap (λ c. cond (b.0 == n) c 0) one_high in
    let low_b : count_by (λ (w : Stand). is_at t low w.place && (b.0 == n)) s.ions ≡ cond (b.0 == n) 1 0 = counted_both (λ (w : Stand). is_at t low w.place) (b.0 == n) s.ions ∙ ap (λ c. cond (b.0 == n) c 0) one_low in
    let high_a : count_by (λ (w : Stand). is_at t high w.place && (a.0 == n)) s.ions ≡ cond (a.0 == n) 1 0 = counted_both (λ (w : Stand). is_at t high w.place) (a.0 == n) s.ions ∙ ap (λ c. cond (a.0 == n) c 0) one_high in
    ap (λ ions. carriers ions n) is ∙ omega arith
