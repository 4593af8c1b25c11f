-- A plan in which each trap of a way hands a qubit on.
use Rattle.std.proofs.Common.{arith, ◌≡◌, ◌≢◌, ℕ, suc, ◌+◌, ◌-◌, ◌*◌, ◌<◌, ◌≤◌, Bool, true, ◌&&◌, cond, eqb, List, [], ◌∷◌, ◌++◌, length, get_or, refl, sym, ◌∙◌, ap, Option, Some, None, inl, inr, subst, suc-mul, append-nil}
use Rattle.std.specs.Prelude.{◌==◌, count_by, find, not, option_map, unwrap_or}
use Rattle.std.proofs.Math.Nat.{mul-le-mul_right}
use Rattle.std.proofs.lemmas.Bool.{and_from, cases_Bool, cases_lt, eq-eqb, false≢true, lt-ltb, ltb-false, ltb-true}
use Rattle.std.proofs.lemmas.Option.{none-some, same_Some}
use Rattle.qccd_base.specs.Names.{trap}
use Rattle.qccd_base.specs.declared.names.Qubit.{Qubit}
use Rattle.qccd_base.specs.declared.names.TrapId.{TrapId}
use Rattle.qccd_base.specs.declared.names.End.{End}
use Rattle.qccd_base.specs.declared.names.End.TheVariants.{Left, Right}
use Rattle.qccd_base.specs.declared.names.Mode.{Mode}
use Rattle.qccd_machine.specs.Machine.{MachineData, IsValid, hop_bound}
use Rattle.op_table.specs.declared.kinds.OpKind.{OpKind}
use Rattle.op_table.specs.State.{IonPlace, InTrap, Stand, State, ions_in}
use Rattle.op_table.specs.Run.{after}
use Rattle.op_plan.specs.Place.{home, ion_place, qubits_in, trap_of}
use Rattle.op_plan.proofs.Runs.{state_ions}
use Rattle.op_plan.specs.Plan.{PlanData, Agrees, Continues, IsPlan, state_of, with_ops}
use Rattle.chain_reorder.specs.Layout.{settled}
use Rattle.chain_reorder.proofs.Lists.{count_by-cons}
use Rattle.chain_reorder.proofs.Reorder.{onto, times_in}
use Rattle.router.specs.Hops.{are_neighbours, distance, hops_lead, next_hop}
use Rattle.router.specs.Paths.{hop_path}
use Rattle.router.specs.Wiring.{WiringData, wiring_of}
use Rattle.router.proofs.Distances.{IsDistance, IsNextHop, distance_is, distance_own, next_hop_found}
use Rattle.router.proofs.Search.{in_any_range}
use Rattle.rebalancer.specs.Hop.{hop_ops, leaving_end}
use Rattle.rebalancer.specs.Outside.{NothingOutside}
use Rattle.rebalancer.specs.Room.{hand_ops, handed, is_kept, seen_from, hands_ops, has_room, nearest, room_ops, way_to, IsNearest, LeadsToRoom}
use Rattle.rebalancer.proofs.Appending.{agrees_on, both_parts, longer}
use Rattle.rebalancer.proofs.Nearest.{nearest_is}
use Rattle.rebalancer.proofs.Planned.{plan_rests, plan_safe, run_agrees, state_on, there_ion}
use Rattle.rebalancer.proofs.Results.{room_there, two_traps}
use Rattle.rebalancer.proofs.Room.{Rests, Roomed, hands_way, is_wiring, roomed, times_onto, way_is}
use Rattle.rebalancer.proofs.Settled.{carried_below, nothing_outside}
use Rattle.rebalancer.proofs.Standing.{At, at_times, stands_where}
use Rattle.rebalancer.proofs.Hopped.{stands_at}

-- one hop more leads from a trap to where hops lead from its neighbour
one_further : (m : MachineData) (t u v : ℕ) → IsValid m → t < length m.capacities → u < length m.capacities → v < length m.capacities → are_neighbours (wiring_of m) t u ≡ true → distance (wiring_of m) t v ≤ distance (wiring_of m) u v + 1
one_further m t u v valid t_there u_there v_there near =
    let n : ℕ = distance (wiring_of m) u v in
    let from_u : IsDistance (wiring_of m) u v n = distance_is (wiring_of m) u v (is_wiring m valid) u_there v_there in
    let from_t : IsDistance (wiring_of m) t v (distance (wiring_of m) t v) = distance_is (wiring_of m) t v (is_wiring m valid) t_there v_there in
    let leads : hops_lead (wiring_of m) v (suc n) t ≡ true = in_any_range (λ c. are_neighbours (wiring_of m) t c && hops_lead (wiring_of m) v n c) 0 (length m.capacities) u (and_from (are_neighbours (wiring_of m) t u) (hops_lead (wiring_of m) v n u) near from_u.leads) (omega arith) (omega (arith, u_there)) in
    elim (cases_lt (suc n) (distance (wiring_of m) t v)) [
      | inl more ↦ absurd (false≢true (sym (from_t.least (suc n) more) ∙ leads))
      | inr few ↦ omega (arith, few)
    ]

-- the way from the next trap leads to the same room
pub way_on : (m : MachineData) (s : State) (t u goal : ℕ) → IsValid m → LeadsToRoom m s t goal → next_hop (wiring_of m) t goal ≡ Some u → LeadsToRoom m s u goal
way_on m s t u goal valid way is =
    let next : IsNextHop (wiring_of m) t goal u = next_hop_found (wiring_of m) t goal u is in
    record {
      there = next.there;
      goal_there = way.goal_there;
      room = way.room;
      crowded = λ v v_there nearer. way.crowded v v_there (omega (arith, nearer, next.nearer, one_further m t u v valid way.there next.there v_there next.neighbour));
    }

-- the way from a trap
pub from_trap : (m : MachineData) (p : PlanData) (t goal : ℕ) (keep : Qubit × Qubit) (mode : Mode) → IsValid m → Agrees m p → IsPlan p → NothingOutside (state_of p) → keep.0.0 < p.qubits → keep.1.0 < p.qubits → home (state_of p) keep.0 ≢ home (state_of p) keep.1 → LeadsToRoom m (state_of p) t goal
    → Roomed m (state_of p) (qubits_in (state_of p)) t (distance (wiring_of m) t goal) goal keep (hands_ops m (state_of p) keep mode (way_to m goal (distance (wiring_of m) t goal) t))
from_trap m p t goal keep mode valid agrees plan nothing first second apart way =
    let s : State = state_of p in
    let rests : Rests m s (qubits_in s) = plan_rests m p agrees plan nothing in
    roomed m goal keep mode valid way.goal_there (distance (wiring_of m) t goal) t s (qubits_in s) way.there refl rests (two_traps m s keep.0 keep.1 (plan_safe m p agrees plan) nothing (there_ion p keep.0 first) (there_ion p keep.1 second) apart)
    (omega (arith, rests.lies.counts goal, ltb-true (ions_in s goal) (get_or m.capacities goal 0) way.room))
    (λ i v less v_there leads_on.
    let far : IsDistance (wiring_of m) t v (distance (wiring_of m) t v) = distance_is (wiring_of m) t v (is_wiring m valid) way.there v_there in
    let at_most : distance (wiring_of m) t v ≤ i = elim (cases_lt i (distance (wiring_of m) t v)) [ inl more ↦ absurd (false≢true (sym (far.least i more) ∙ leads_on)) | inr few ↦ few ] in
    omega (arith, rests.lies.counts v, way.crowded v v_there (omega (arith, less, at_most))))

-- the traps behind the first have handed on
pub record Handing (m : MachineData) (p mid : PlanData) (t u goal : ℕ) (keep : Qubit × Qubit) (mode : Mode) : Type 0 where
  pub agrees : Agrees m mid
  pub neighbour : are_neighbours (wiring_of m) t u ≡ true
  pub free : has_room m (state_of mid) u ≡ true
  pub outside : NothingOutside (state_of mid)
  pub few : length mid.ops + hop_bound m ≤ 4194304
  pub so_far : Continues p mid
  pub whole : with_ops mid (hand_ops m (state_of mid) keep mode t u) ≡ with_ops p (hands_ops m (state_of p) keep mode (way_to m goal (distance (wiring_of m) t goal) t))

pub handing : (m : MachineData) (p mid : PlanData) (t u goal : ℕ) (keep : Qubit × Qubit) (mode : Mode) → IsValid m → Agrees m p → IsPlan p → NothingOutside (state_of p) → keep.0.0 < p.qubits → keep.1.0 < p.qubits → home (state_of p) keep.0 ≢ home (state_of p) keep.1 → LeadsToRoom m (state_of p) t goal
    → length p.ops + distance (wiring_of m) t goal * hop_bound m ≤ 4194304 → next_hop (wiring_of m) t goal ≡ Some u → mid ≡ with_ops p (hands_ops m (state_of p) keep mode (way_to m goal (distance (wiring_of m) u goal) u)) → Handing m p mid t u goal keep mode
handing m p mid t u goal keep mode valid agrees plan nothing first second apart way few is done =
    let s : State = state_of p in
    let n : ℕ = distance (wiring_of m) u goal in
    let next : IsNextHop (wiring_of m) t goal u = next_hop_found (wiring_of m) t goal u is in
    let ops : List OpKind = hands_ops m s keep mode (way_to m goal n u) in
    let made : Roomed m s (qubits_in s) u n goal keep ops = from_trap m p u goal keep mode valid agrees plan nothing first second apart (way_on m s t u goal valid way is) in
    let at : state_of mid ≡ after m s ops = state_on m p mid ops agrees done in
    let rests : Rests m (state_of mid) made.chains = subst (λ (z : State). Rests m z made.chains) (sym at) made.rests in
    let further : suc n ≡ distance (wiring_of m) t goal = omega (arith, next.nearer) in
    let list : hands_ops m s keep mode (way_to m goal (distance (wiring_of m) t goal) t) ≡ ops ++ hand_ops m (after m s ops) keep mode t u =
    ap (λ (k : ℕ). hands_ops m s keep mode (way_to m goal k t)) (sym further) ∙ ap (hands_ops m s keep mode) (way_is m goal n t u is) ∙ hands_way m s keep mode goal n t u in
    record {
      agrees = agrees_on m p mid ops agrees done;
      neighbour = next.neighbour;
      free = lt-ltb (ions_in (state_of mid) u) (get_or m.capacities u 0) (omega (arith, rests.lies.counts u, made.room));
      outside = nothing_outside m (state_of mid) made.chains rests;
      few = omega (arith, longer p mid ops done, made.short, few, next.nearer, suc-mul n (hop_bound m), ap (λ (k : ℕ). k * hop_bound m) further);
      so_far = record { more = ops; run = run_agrees m p s ops agrees made.run; is = done };
      whole = both_parts p mid (with_ops mid (hand_ops m (state_of mid) keep mode t u)) ops (hand_ops m (state_of mid) keep mode t u) done refl
          ∙ ap (λ (z : State). with_ops p (ops ++ hand_ops m z keep mode t u)) at ∙ ap (with_ops p) (sym list);
    }

-- at the goal nothing is handed on
pub at_goal : (m : MachineData) (s : State) (t goal : ℕ) (keep : Qubit × Qubit) (mode : Mode) → distance (wiring_of m) t goal ≡ 0 → hands_ops m s keep mode (way_to m goal (distance (wiring_of m) t goal) t) ≡ []
at_goal m s t goal keep mode none = ap (λ (k : ℕ). hands_ops m s keep mode (way_to m goal k t)) none

-- the nearest trap with a free slot is a goal
pub goal_leads : (m : MachineData) (p : PlanData) (t free goal : ℕ) → IsValid m → Agrees m p → IsPlan p → t < length m.capacities → has_room m (state_of p) free ≡ true → nearest m (state_of p) t ≡ Some goal → LeadsToRoom m (state_of p) t goal × (distance (wiring_of m) t goal ≤ length m.capacities - 1)
goal_leads m p t free goal valid agrees plan there room is =
    let s : State = state_of p in
    let found : (k : ℕ) × (nearest m s t ≡ Some k) × IsNearest m s t k = nearest_is m s t free valid there (room_there m s free room) room in
    let near : IsNearest m s t goal = subst (IsNearest m s t) (same_Some found.0 goal (sym found.1 ∙ is)) found.2 in
    let far : IsDistance (wiring_of m) t goal (distance (wiring_of m) t goal) = distance_is (wiring_of m) t goal (is_wiring m valid) there near.there in (
      record {
        there = there;
        goal_there = near.there;
        room = near.room;
        crowded = λ v v_there nearer.
            let two : 2 ≤ get_or m.capacities v 0 = (valid.capacities v 0 v_there).0 in
            omega (arith, two, ltb-false (ions_in s v) (get_or m.capacities v 0) (near.nearer_full v v_there nearer));
      },
      omega (arith, far.below),
    )

pub room_by_goal : (m : MachineData) (s : State) (t goal : ℕ) (keep : Qubit × Qubit) (mode : Mode) → nearest m s t ≡ Some goal → room_ops m s t keep mode ≡ hands_ops m s keep mode (way_to m goal (distance (wiring_of m) t goal) t)
unfolding room_ops
room_by_goal m s t goal keep mode is = ap (λ (o : Option ℕ). hands_ops m s keep mode (way_to m (unwrap_or o t) (distance (wiring_of m) t (unwrap_or o t)) t)) is

-- ---- the qubit that a trap hands on

found_counts : {X : Type 0} (p : X → Bool) (xs : List X) (x : X) → find p xs ≡ Some x → 1 ≤ count_by p xs
found_counts p [] x is = cc
found_counts p (y ∷ xs) x is = elim (cases_Bool (p y)) [
  | inl here ↦ (let one : cond {A = ℕ} (p y) 1 0 ≡ 1 = ap (λ b. cond b 1 0) here in omega (arith, count_by-cons p y xs, one))
  | inr not_here ↦ omega (arith, found_counts p xs x (rw not_here at is), count_by-cons p y xs)
]

found_stands : (p : Qubit → Bool) (xs : List Qubit) (q : Qubit) → find p xs ≡ Some q → 1 ≤ times_in xs q.0
found_stands p [] q is = cc
found_stands p (x ∷ xs) q is = elim (cases_Bool (p x)) [
  | inl here ↦
      let same : x ≡ q = (let e : Some x ≡ Some q = rw here at is in cc) in
      let one : cond {A = ℕ} (eqb x.0 q.0) 1 0 ≡ 1 = ap (λ b. cond b 1 0) (eq-eqb x.0 q.0 (ap (λ (r : Qubit). r.0) same)) in
      omega (arith, count_by-cons (λ (r : Qubit). r.0 == q.0) x xs, one)
  | inr not_here ↦ omega (arith, found_stands p xs q (rw not_here at is), count_by-cons (λ (r : Qubit). r.0 == q.0) x xs)
]

seen_stands : (p : Qubit → Bool) (end : End) (xs : List Qubit) (q : Qubit) → find p (seen_from end xs) ≡ Some q → 1 ≤ times_in xs q.0
seen_stands p Left xs q is = found_stands p xs q is
seen_stands p Right xs q is = omega (arith, found_stands p (onto xs []) q is, times_onto xs [] q.0)

some_place : (o : Option Stand) (place : IonPlace) → option_map (λ (w : Stand). w.place) o ≡ Some place → (w : Stand) × (o ≡ Some w)
some_place None place is = cc
some_place (Some w) place is = (w, refl)

pub handed_stands : (m : MachineData) (p : PlanData) (t u : ℕ) (keep : Qubit × Qubit) (q : Qubit) → Agrees m p → IsPlan p → NothingOutside (state_of p) → handed m (state_of p) t u keep ≡ Some q → (trap_of (state_of p) q ≡ t) × (q.0 < p.qubits)
handed_stands m p t u keep q agrees plan nothing is =
    let s : State = state_of p in
    let cs : ℕ → List Qubit = qubits_in s in
    let rests : Rests m s cs = plan_rests m p agrees plan nothing in
    let some : 1 ≤ times_in (cs t) q.0 = seen_stands (λ r. not (is_kept keep r)) (leaving_end m t (unwrap_or (hop_path (wiring_of m) t u) [])) (cs t) q is in
    let at : At (cs t) q.0 = at_times (cs t) q.0 some in
    let place : ion_place s q ≡ Some (InTrap t at.index) = stands_at s (settled cs) t at.index q rests.once rests.lies (at.there ∙ ap (λ (n : ℕ). Some (record { 0 = n })) at.is) in
    let ion : (w : Stand) × (find (λ (w : Stand). w.qubit.0 == q.0) s.ions ≡ Some w) = some_place (find (λ (w : Stand). w.qubit.0 == q.0) s.ions) (InTrap t at.index) place in
    (stands_where m s cs t q rests some, omega (arith, carried_below m s q.0 (plan_safe m p agrees plan) (found_counts (λ (w : Stand). w.qubit.0 == q.0) s.ions ion.0 ion.1), state_ions p))

pub hands_nothing : (m : MachineData) (s : State) (keep : Qubit × Qubit) (mode : Mode) (t u : ℕ) → handed m s t u keep ≡ None → hand_ops m s keep mode t u ≡ []
hands_nothing m s keep mode t u is = ap (λ (o : Option Qubit). unwrap_or (option_map (λ q. hop_ops m s q u mode) o) []) is

pub hands_it : (m : MachineData) (s : State) (keep : Qubit × Qubit) (mode : Mode) (t u : ℕ) (q : Qubit) → handed m s t u keep ≡ Some q → hand_ops m s keep mode t u ≡ hop_ops m s q u mode
hands_it m s keep mode t u q is = ap (λ (o : Option Qubit). unwrap_or (option_map (λ q. hop_ops m s q u mode) o) []) is

-- ---- the next trap of the way

pub trap_number : (o : Option ℕ) (u : TrapId) → Some u ≡ option_map trap o → o ≡ Some u.0
trap_number None u is = cc
trap_number (Some k) u is = ap (λ (x : TrapId). Some x.0) (sym (same_Some u (trap k) is))

pub next_known : (m : MachineData) (routes : WiringData) (t goal : ℕ) (u : TrapId) → routes ≡ wiring_of m → Some u ≡ option_map trap (next_hop routes t goal) → next_hop (wiring_of m) t goal ≡ Some u.0
next_known m routes t goal u same is = ap (λ (w : WiringData). next_hop w t goal) (sym same) ∙ trap_number (next_hop routes t goal) u is

pub one_nearer : (m : MachineData) (t goal u : ℕ) → next_hop (wiring_of m) t goal ≡ Some u → distance (wiring_of m) u goal + 1 ≡ distance (wiring_of m) t goal
one_nearer m t goal u is = (next_hop_found (wiring_of m) t goal u is).nearer

pub fewer_left : (m : MachineData) (t goal u n : ℕ) → next_hop (wiring_of m) t goal ≡ Some u → n + distance (wiring_of m) t goal * hop_bound m ≤ 4194304 → n + distance (wiring_of m) u goal * hop_bound m ≤ 4194304
fewer_left m t goal u n is few =
    let further : suc (distance (wiring_of m) u goal) ≡ distance (wiring_of m) t goal = omega (arith, one_nearer m t goal u is) in
    omega (arith, few, suc-mul (distance (wiring_of m) u goal) (hop_bound m), ap (λ (k : ℕ). k * hop_bound m) further)

-- at the goal nothing is handed on
pub nothing_more : (m : MachineData) (p : PlanData) (t goal : TrapId) (keep : Qubit × Qubit) (mode : Mode) → IsValid m → t.0 < length m.capacities → t ≡ goal → p ≡ with_ops p (hands_ops m (state_of p) keep mode (way_to m goal.0 (distance (wiring_of m) t.0 goal.0) t.0))
nothing_more m p t goal keep mode valid there same =
    let none : distance (wiring_of m) t.0 goal.0 ≡ 0 = ap (λ (g : TrapId). distance (wiring_of m) t.0 g.0) (sym same) ∙ distance_own (wiring_of m) t.0 (is_wiring m valid) there in
    ap (λ (ops : List OpKind). record p { ops = ops }) (sym (append-nil p.ops)) ∙ ap (with_ops p) (sym (at_goal m (state_of p) t.0 goal.0 keep mode none))

pub no_goal : (m : MachineData) (s : State) (t free : ℕ) → IsValid m → t < length m.capacities → has_room m s free ≡ true → None ≡ option_map trap (nearest m s t) → ⊥
no_goal m s t free valid there room none =
    let found : (k : ℕ) × (nearest m s t ≡ Some k) × IsNearest m s t k = nearest_is m s t free valid there (room_there m s free room) room in
    none-some (trap found.0) (none ∙ ap (option_map trap) found.1)

pub few_for_goal : (m : MachineData) (p : PlanData) (t goal : ℕ) → distance (wiring_of m) t goal ≤ length m.capacities - 1 → length p.ops + (length m.capacities - 1) * hop_bound m ≤ 4194304 → length p.ops + distance (wiring_of m) t goal * hop_bound m ≤ 4194304
few_for_goal m p t goal near few = omega (arith, few, mul-le-mul_right (hop_bound m) near)
