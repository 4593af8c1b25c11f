-- The nearest trap with a free slot, found trap by trap.
use Rattle.std.proofs.Common.{arith, ◌≡◌, ℕ, ◌+◌, ◌<◌, ◌≤◌, Bool, true, ◌&&◌, length, refl, sym, ◌∙◌, ap, Option, Some, None, inl, inr, subst, option_map}
use Rattle.std.proofs.lemmas.Bool.{and_from, and_parts, cases_Bool, cases_eq, cases_lt, false≢true, lt-ltb, ltb-true}
use Rattle.qccd_base.specs.Names.{trap}
use Rattle.qccd_base.specs.declared.names.TrapId.{TrapId}
use Rattle.qccd_machine.specs.Machine.{MachineData, IsValid}
use Rattle.op_table.specs.State.{State}
use Rattle.router.specs.Hops.{distance}
use Rattle.router.specs.Wiring.{wiring_of}
use Rattle.rebalancer.specs.declared.making.Goal.{Goal}
use Rattle.rebalancer.specs.Goal.{better, is_nearer, IsBest, IsBestGoal}
use Rattle.rebalancer.specs.Room.{has_room, nearest, IsNearest}
use Rattle.rebalancer.proofs.Nearest.{nearest_is}
use Rattle.rebalancer.proofs.Results.{room_there}

-- the next trap is nearer
pub best_taken : (m : MachineData) (s : State) (t n far : ℕ) (u : TrapId) (best : Option Goal) → u.0 ≡ n → far ≡ distance (wiring_of m) t n → IsBest m s t n best → has_room m s n ≡ true → is_nearer far best ≡ true
    → IsBestGoal m s t (n + 1) (record { trap = u; distance = far })
best_taken m s t n far u best at is so_far room nearer = record {
  below = omega (arith, at);
  room = subst (λ k. has_room m s k ≡ true) (sym at) room;
  far = is ∙ ap (distance (wiring_of m) t) (sym at);
  nearest = λ v less has. elim (cases_eq v n) [
    | inl same ↦ (let here : distance (wiring_of m) t v ≡ distance (wiring_of m) t n = ap (distance (wiring_of m) t) same in omega (arith, is))
    | inr apart ↦ (let nearer_v : far < distance (wiring_of m) t v = by_best best so_far nearer v (grind arith) has in omega arith)
  ];
  least = λ v less has. by_best best so_far nearer v (omega (arith, at)) has;
}
  where
    by_best : (best : Option Goal) → IsBest m s t n best → is_nearer far best ≡ true → (v : ℕ) → v < n → has_room m s v ≡ true → far < distance (wiring_of m) t v
    by_best None so_far nearer v less has = absurd (false≢true (sym (so_far v less) ∙ has))
    by_best (Some goal) so_far nearer v less has = omega (arith, ltb-true far goal.distance nearer, so_far.nearest v less has)

-- it is full, or as far
pub best_kept : (m : MachineData) (s : State) (t n far : ℕ) (best : Option Goal) → far ≡ distance (wiring_of m) t n → IsBest m s t n best → (has_room m s n ≡ true → is_nearer far best ≡ true → ⊥) → IsBest m s t (n + 1) best
best_kept m s t n far None is so_far kept = λ v less. elim (cases_eq v n) [
  | inl same ↦ elim (cases_Bool (has_room m s v)) [
    | inl has ↦ absurd (kept (subst (λ k. has_room m s k ≡ true) same has) refl)
    | inr full ↦ full
  ]
  | inr apart ↦ so_far v (grind arith)
]
best_kept m s t n far (Some goal) is so_far kept = record {
  below = omega (arith, so_far.below);
  room = so_far.room;
  far = so_far.far;
  nearest = λ v less has. elim (cases_eq v n) [
    | inl same ↦ elim (cases_lt far goal.distance) [
      | inl nearer ↦ absurd (kept (subst (λ k. has_room m s k ≡ true) same has) (lt-ltb far goal.distance nearer))
      | inr further ↦ (let here : distance (wiring_of m) t v ≡ distance (wiring_of m) t n = ap (distance (wiring_of m) t) same in omega (arith, is))
    ]
    | inr apart ↦ so_far.nearest v (grind arith) has
  ];
  least = so_far.least;
}

pub best_next : (m : MachineData) (s : State) (t n : ℕ) (goal : Goal) (has : Bool) (best : Option Goal) → goal.trap.0 ≡ n → goal.distance ≡ distance (wiring_of m) t n → has ≡ has_room m s n → IsBest m s t n best → IsBest m s t (n + 1) (better has goal best)
best_next m s t n goal has best at is room so_far = elim (cases_Bool (has && is_nearer goal.distance best)) [
  | inl both ↦
      let parts : (has ≡ true) × (is_nearer goal.distance best ≡ true) = and_parts has (is_nearer goal.distance best) both in
      rw both (best_taken m s t n goal.distance goal.trap best at is so_far (sym room ∙ parts.0) parts.1)
  | inr not_both ↦ rw not_both (best_kept m s t n goal.distance best is so_far (λ free nearer. false≢true (sym not_both ∙ and_from has (is_nearer goal.distance best) (room ∙ free) nearer)))
]

-- over all traps it is the nearest
pub best_is : (m : MachineData) (s : State) (t free n : ℕ) (best : Option Goal) → IsValid m → t < length m.capacities → has_room m s free ≡ true → n ≡ length m.capacities → IsBest m s t n best → option_map (λ (g : Goal). g.trap) best ≡ option_map trap (nearest m s t)
best_is m s t free n None valid there room all so_far = absurd (false≢true (sym (so_far free (omega (arith, room_there m s free room, all))) ∙ room))
best_is m s t free n (Some goal) valid there room all so_far =
    let found : (goal : ℕ) × (nearest m s t ≡ Some goal) × IsNearest m s t goal = nearest_is m s t free valid there (room_there m s free room) room in
    let other : IsNearest m s t found.0 = found.2 in
    let same : goal.trap.0 ≡ found.0 = one_only goal found.0 so_far other in
    ap (λ (k : ℕ). Some (trap k)) same ∙ ap (option_map trap) (sym found.1)
  where
    one_only : (goal : Goal) (k : ℕ) → IsBestGoal m s t n goal → IsNearest m s t k → goal.trap.0 ≡ k
    one_only goal k best other =
        let here : goal.distance ≤ distance (wiring_of m) t k = best.nearest k (omega (arith, other.there, all)) other.room in
        let there : distance (wiring_of m) t goal.trap.0 < distance (wiring_of m) t k → ⊥ = λ less. false≢true (sym (other.nearer_full goal.trap.0 (omega (arith, best.below, all)) less) ∙ best.room) in
        let as_far : distance (wiring_of m) t goal.trap.0 ≡ distance (wiring_of m) t k = elim (cases_lt (distance (wiring_of m) t goal.trap.0) (distance (wiring_of m) t k)) [ inl less ↦ absurd (there less) | inr more ↦ omega (arith, best.far) ] in
        elim (cases_lt goal.trap.0 k) [
          | inl less ↦ absurd (false≢true (sym (other.lesser_full goal.trap.0 less as_far) ∙ best.room))
          | inr more ↦ elim (cases_lt k goal.trap.0) [
            | inl less ↦ (let less_far : goal.distance < distance (wiring_of m) t k = best.least k less other.room in absurd (omega (arith, best.far)))
            | inr few ↦ omega arith
          ]
        ]
