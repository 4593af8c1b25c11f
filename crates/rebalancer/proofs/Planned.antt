-- Plans between hops: what stands where, and which operations run.
use Rattle.std.proofs.Common.{◌≡◌, ℕ, zero, suc, ◌+◌, ◌-◌, ◌*◌, ◌<◌, ◌≤◌, true, List, [], ◌∷◌, map, length, get_or, refl, sym, ◌∙◌, ap, arith, Option, Some, None, subst}
use Rattle.std.specs.Prelude.{All, filter_map, is_some, option_map, unwrap_or}
use Rattle.std.specs.List.{AllByRecursion, cons_option, range_with_len}
use Rattle.std.proofs.lemmas.Bool.{false≢true}
use Rattle.std.proofs.lemmas.Option.{none-some, slice_get_within, same_Some}
use Rattle.std.proofs.lemmas.List.{length-map}
use Rattle.std.proofs.lemmas.List.Elements.{All-from_recursion}
use Rattle.qccd_base.specs.Names.{trap}
use Rattle.qccd_base.specs.declared.names.Qubit.{Qubit}
use Rattle.qccd_base.specs.declared.names.SegId.{SegId}
use Rattle.qccd_base.specs.declared.names.TrapId.{TrapId}
use Rattle.qccd_base.specs.declared.names.End.{End}
use Rattle.qccd_base.specs.declared.names.Mode.{Mode}
use Rattle.qccd_base.specs.declared.names.Res.TheVariants as res
use Rattle.qccd_machine.specs.Machine.{MachineData, IsValid, hop_bound}
use Rattle.op_table.specs.declared.kinds.OpKind.{OpKind}
use Rattle.op_table.specs.State.{IonPlace, InTrap, OnSegment, InJunction, Stand, State, IsSafe, ions_in, is_at, qubit_at}
use Rattle.op_table.specs.declared.contents.Entry.{Entry}
use Rattle.op_table.specs.Contents.{chain, entry_at, entry_of, seek}
use Rattle.op_table.proofs.Seeking.{seek-find, stand_in}
use Rattle.op_table.specs.Step.{effect}
use Rattle.op_table.specs.Run.{IsRun, after}
use Rattle.op_plan.specs.Place.{home, ion_place, position_of, qubits_in, stands_in, trap_and_position, trap_in, trap_of}
use Rattle.op_plan.specs.Plan.{PlanData, Agrees, Continues, IsPlan, state_of, wired, with_ops}
use Rattle.op_plan.proofs.Agreeing.{effect_agrees, safe_agrees, why_agrees}
use Rattle.op_plan.proofs.Runs.{state_ions, state_more, state_safe}
use Rattle.chain_reorder.specs.Reorder.{reorder_ops}
use Rattle.chain_reorder.proofs.Reorder.{to_end_short}
use Rattle.router.specs.Hops.{are_neighbours}
use Rattle.router.specs.Paths.{hop_path}
use Rattle.router.specs.Wiring.{WiringData, wiring_of}
use Rattle.router.proofs.LeastPath.{IsHop, hop_path_is, path_there}
use Rattle.rebalancer.specs.Hop.{along, hop_along, hop_ops, leaving_end}
use Rattle.rebalancer.proofs.Appending.{agrees_on, both_parts, first_part, longer, run_on}
use Rattle.rebalancer.specs.Outside.{NothingOutside}
use Rattle.rebalancer.specs.Room.{has_room}
use Rattle.rebalancer.proofs.Results.{hop_done, stands_home}
use Rattle.rebalancer.proofs.Room.{Rests, at_most_greatest}
use Rattle.rebalancer.proofs.Settled.{rests_own}
use Rattle.rebalancer.proofs.Standing.{At, at_times, stands_at}

-- ---- machines that agree with a plan

pub after_agrees : (m : MachineData) (p : PlanData) (s : State) (ops : List OpKind) → Agrees m p → after m s ops ≡ after (wired p) s ops
after_agrees m p s [] agrees = refl
after_agrees m p s (op ∷ ops) agrees = after_agrees m p (effect m s op) ops agrees ∙ ap (λ (z : State). after (wired p) z ops) (effect_agrees m p s op agrees)

pub run_agrees : (m : MachineData) (p : PlanData) (s : State) (ops : List OpKind) → Agrees m p → IsRun m s ops → IsRun (wired p) s ops
run_agrees m p s [] agrees run = tt
run_agrees m p s (op ∷ ops) agrees run = (
  sym (why_agrees m p s op agrees) ∙ run.0,
  subst (λ (z : State). IsRun (wired p) z ops) (effect_agrees m p s op agrees) (run_agrees m p (effect m s op) ops agrees run.1),
)

-- the state of a plan that some operations have made longer
pub state_on : (m : MachineData) (p new : PlanData) (ops : List OpKind) → Agrees m p → new ≡ with_ops p ops → state_of new ≡ after m (state_of p) ops
state_on m p new ops agrees is = ap state_of is ∙ state_more p ops ∙ sym (after_agrees m p (state_of p) ops agrees)

pub plan_safe : (m : MachineData) (p : PlanData) → Agrees m p → IsPlan p → IsSafe m (state_of p)
plan_safe m p agrees plan = safe_agrees m p (state_of p) agrees (state_safe p plan)

pub plan_rests : (m : MachineData) (p : PlanData) → Agrees m p → IsPlan p → NothingOutside (state_of p) → Rests m (state_of p) (qubits_in (state_of p))
plan_rests m p agrees plan nothing = rests_own m (state_of p) (plan_safe m p agrees plan) nothing

pub there_ion : (p : PlanData) (q : Qubit) → q.0 < p.qubits → q.0 < length (state_of p).ions
there_ion p q less = omega (arith, state_ions p)

-- ---- where a qubit stands

at_home : (o : Option IonPlace) (t : TrapId) (k : ℕ) → trap_and_position o ≡ Some (t, k) → trap_in o ≡ t.0
at_home None t k is = cc
at_home (Some (InTrap u i)) t k is = let same : (trap u, i) ≡ (t, k) = same_Some (trap u, i) (t, k) is in ap (λ (x : TrapId × ℕ). x.0.0) same
at_home (Some (OnSegment g e h)) t k is = cc
at_home (Some (InJunction j h)) t k is = cc

pub trap_known : (s : State) (q : Qubit) (t : TrapId) (k : ℕ) → stands_in s q ≡ Some (t, k) → trap_of s q ≡ t.0
trap_known s q t k is = at_home (ion_place s q) t k is

pub home_known : (s : State) (q : Qubit) (t : TrapId) (k : ℕ) → stands_in s q ≡ Some (t, k) → home s q ≡ Some t
home_known s q t k is = ap (option_map (λ (x : TrapId × ℕ). x.0)) is

-- each qubit stands in a trap
pub stands_somewhere : (m : MachineData) (p : PlanData) (q : Qubit) → Agrees m p → IsPlan p → NothingOutside (state_of p) → q.0 < p.qubits → stands_in (state_of p) q ≡ None → ⊥
stands_somewhere m p q agrees plan nothing less none =
    let at = stands_home m (state_of p) (qubits_in (state_of p)) q (plan_rests m p agrees plan nothing) (there_ion p q less) in
    none-some (trap (trap_of (state_of p) q)) (sym (ap (option_map (λ (x : TrapId × ℕ). x.0)) none) ∙ at.0)

-- ---- how long a hop is

-- to an end it takes fewer operations than the trap takes ions
pub reorder_short : (m : MachineData) (s : State) (cs : ℕ → List Qubit) (q : Qubit) (end : End) (mode : Mode) → Rests m s cs → q.0 < length s.ions → length (reorder_ops s q end mode) ≤ get_or m.capacities (trap_of s q) 0 - 1
reorder_short m s cs q end mode rests less =
    let home = stands_home m s cs q rests less in
    let at : At (cs (trap_of s q)) q.0 = at_times (cs (trap_of s q)) q.0 home.1 in
    let index : position_of s q ≡ at.index = (stands_at m s cs (trap_of s q) q at rests).1 in
    let within : at.index < length (cs (trap_of s q)) = slice_get_within (cs (trap_of s q)) at.index at.qubit at.there in
    omega (arith, to_end_short (trap_of s q) (ions_in s (trap_of s q)) (position_of s q) end mode (omega (arith, index, within, rests.lies.counts (trap_of s q))), rests.lies.counts (trap_of s q), rests.fits (trap_of s q))

-- ---- the path of a hop

numbers_there : (segments : ℕ) (path : List SegId) → AllByRecursion (λ g. g < segments) (map (λ g. g.0) path) → AllByRecursion (λ (g : SegId). g.0 < segments) path
numbers_there segments [] all = tt
numbers_there segments (g ∷ path) all = (all.0, numbers_there segments path all.1)

pub path_segments : (m : MachineData) (t to : ℕ) (path : List SegId) → hop_path (wiring_of m) t to ≡ Some (map (λ g. g.0) path) → All (λ (g : SegId). g.0 < length m.segments) path
path_segments m t to path is =
    let hop : IsHop (wiring_of m) t to (map (λ g. g.0) path) = hop_path_is (wiring_of m) t to (map (λ g. g.0) path) is in
    All-from_recursion _ _ (numbers_there (length m.segments) path (path_there (wiring_of m) to (map (λ g. g.0) path) (res.Trap (trap t)) hop.leads_to))

pub path_short : (m : MachineData) (t to : ℕ) (path : List SegId) → hop_path (wiring_of m) t to ≡ Some (map (λ g. g.0) path) → length path ≤ m.junctions + 1
path_short m t to path is = omega (arith, (hop_path_is (wiring_of m) t to (map (λ g. g.0) path) is).short, length-map path (λ g. g.0))

-- the operations of a hop along its path
pub hop_by_path : (m : MachineData) (s : State) (q : Qubit) (t to : ℕ) (mode : Mode) (path : List ℕ) → trap_of s q ≡ t → hop_path (wiring_of m) t to ≡ Some path → hop_ops m s q to mode ≡ hop_along m s q mode t path
unfolding hop_ops
hop_by_path m s q t to mode path at is =
    ap (λ (u : ℕ). hop_along m s q mode u (unwrap_or (hop_path (wiring_of m) u to) [])) at ∙ ap (λ o. hop_along m s q mode t (unwrap_or o [])) is

-- between a trap and its neighbour there is a path
pub neighbours_joined : (m : MachineData) (t u to : ℕ) → t ≡ u → are_neighbours (wiring_of m) t to ≡ true → hop_path (wiring_of m) u to ≡ None → ⊥
neighbours_joined m t u to same near none = false≢true (sym (ap is_some (ap (λ (v : ℕ). hop_path (wiring_of m) v to) same ∙ none)) ∙ near)

-- ---- the two parts of a hop: to the end of the chain, and along the path

pub record Hopping (m : MachineData) (p mid : PlanData) (q : Qubit) (mode : Mode) (t : ℕ) (path : List SegId) : Type 0 where
  pub agrees : Agrees m mid
  pub few : length mid.ops + 3 * length path ≤ 4194304
  pub run : IsRun (wired mid) (state_of mid) (along m (map (λ g. g.0) path) (res.Trap (trap t)))
  pub so_far : Continues p mid
  pub whole : with_ops mid (along m (map (λ g. g.0) path) (res.Trap (trap t))) ≡ with_ops p (hop_along m (state_of p) q mode t (map (λ g. g.0) path))

pub at_the_end : (m : MachineData) (p mid : PlanData) (q : Qubit) (mode : Mode) (t : TrapId) (path : List SegId) (end : End) → Agrees m p → IsPlan p → NothingOutside (state_of p) → q.0 < p.qubits → length path ≤ m.junctions + 1 → length p.ops + hop_bound m ≤ 4194304
    → IsRun (wired p) (state_of p) (hop_along m (state_of p) q mode t.0 (map (λ g. g.0) path)) → end ≡ leaving_end m t.0 (map (λ g. g.0) path) → mid ≡ with_ops p (reorder_ops (state_of p) q end mode) → Hopping m p mid q mode t.0 path
at_the_end m p mid q mode t path end agrees plan nothing less short few run end_is is =
    let first : List OpKind = reorder_ops (state_of p) q (leaving_end m t.0 (map (λ g. g.0) path)) mode in
    let rest : List OpKind = along m (map (λ g. g.0) path) (res.Trap t) in
    let same : mid ≡ with_ops p first = is ∙ ap (λ (e : End). with_ops p (reorder_ops (state_of p) q e mode)) end_is in
    let shorter : length first ≤ get_or m.capacities (trap_of (state_of p) q) 0 - 1 = reorder_short m (state_of p) (qubits_in (state_of p)) q (leaving_end m t.0 (map (λ g. g.0) path)) mode (plan_rests m p agrees plan nothing) (there_ion p q less) in
    record {
      agrees = agrees_on m p mid first agrees same;
      few = omega (arith, longer p mid first same, shorter, at_most_greatest m.capacities (trap_of (state_of p) q), short, few);
      run = run_on p mid first rest same run;
      so_far = first_part p mid first rest same run;
      whole = both_parts p mid (with_ops mid rest) first rest same refl;
    }

-- ---- a hop

pub trap_below : (m : MachineData) (p : PlanData) (q : Qubit) (t : TrapId) (k : ℕ) → Agrees m p → IsPlan p → NothingOutside (state_of p) → q.0 < p.qubits → stands_in (state_of p) q ≡ Some (t, k) → t.0 < length m.capacities
trap_below m p q t k agrees plan nothing less is =
    let at = stands_home m (state_of p) (qubits_in (state_of p)) q (plan_rests m p agrees plan nothing) (there_ion p q less) in
    omega (arith, at.2, trap_known (state_of p) q t k is)

pub path_by : (m : MachineData) (routes : WiringData) (t u : ℕ) (path : Option (List ℕ)) → routes ≡ wiring_of m → hop_path routes t u ≡ path → hop_path (wiring_of m) t u ≡ path
path_by m routes t u path same is = ap (λ (w : WiringData). hop_path w t u) (sym same) ∙ is

pub hop_runs : (m : MachineData) (p : PlanData) (q : Qubit) (t : TrapId) (k to : ℕ) (mode : Mode) (path : List SegId) → IsValid m → Agrees m p → IsPlan p → NothingOutside (state_of p) → q.0 < p.qubits → are_neighbours (wiring_of m) (trap_of (state_of p) q) to ≡ true → has_room m (state_of p) to ≡ true
    → stands_in (state_of p) q ≡ Some (t, k) → hop_path (wiring_of m) t.0 to ≡ Some (map (λ g. g.0) path)
    → IsRun (wired p) (state_of p) (hop_along m (state_of p) q mode t.0 (map (λ g. g.0) path)) × (hop_ops m (state_of p) q to mode ≡ hop_along m (state_of p) q mode t.0 (map (λ g. g.0) path))
hop_runs m p q t k to mode path valid agrees plan nothing less near room is path_is =
    let same : hop_ops m (state_of p) q to mode ≡ hop_along m (state_of p) q mode t.0 (map (λ g. g.0) path) = hop_by_path m (state_of p) q t.0 to mode (map (λ g. g.0) path) (trap_known (state_of p) q t k is) path_is in
    let done = hop_done m (state_of p) q to mode valid (plan_safe m p agrees plan) nothing (there_ion p q less) near room in
    (subst (IsRun (wired p) (state_of p)) same (run_agrees m p (state_of p) (hop_ops m (state_of p) q to mode) agrees done.0.run), same)

-- ---- the qubits of a trap

same_qubit : (o : Option (ℕ × Stand)) → option_map (λ (x : Entry). x.qubit) (option_map entry_of o) ≡ option_map (λ (w : Stand). w.qubit) (stand_in o)
same_qubit None = refl
same_qubit (Some e) = refl

entry_qubit : (s : State) (t k : ℕ) → option_map (λ (x : Entry). x.qubit) (entry_at s t k) ≡ qubit_at s t k
entry_qubit s t k = same_qubit (seek (λ (w : Stand). is_at t k w.place) s.ions) ∙ ap (option_map (λ (w : Stand). w.qubit)) (seek-find (λ (w : Stand). is_at t k w.place) s.ions)

qubits_by : (s : State) (t a n : ℕ) → map (λ (e : Entry). e.qubit) (filter_map (entry_at s t) (range_with_len a n)) ≡ filter_map (qubit_at s t) (range_with_len a n)
qubits_by s t a zero = refl
qubits_by s t a (suc n) = one (entry_at s t a) (qubit_at s t a) (entry_qubit s t a) (qubits_by s t (a + 1) n)
  where
    one : (e : Option Entry) (q : Option Qubit) → option_map (λ (x : Entry). x.qubit) e ≡ q → map (λ (x : Entry). x.qubit) (filter_map (entry_at s t) (range_with_len (a + 1) n)) ≡ filter_map (qubit_at s t) (range_with_len (a + 1) n)
        → map (λ (x : Entry). x.qubit) (cons_option e (filter_map (entry_at s t) (range_with_len (a + 1) n))) ≡ cons_option q (filter_map (qubit_at s t) (range_with_len (a + 1) n))
    one None q is rest = subst (λ (o : Option Qubit). map (λ (x : Entry). x.qubit) (filter_map (entry_at s t) (range_with_len (a + 1) n)) ≡ cons_option o (filter_map (qubit_at s t) (range_with_len (a + 1) n))) is rest
    one (Some x) q is rest = subst (λ (o : Option Qubit). x.qubit ∷ map (λ (x : Entry). x.qubit) (filter_map (entry_at s t) (range_with_len (a + 1) n)) ≡ cons_option o (filter_map (qubit_at s t) (range_with_len (a + 1) n))) is (ap (λ qs. x.qubit ∷ qs) rest)

pub chain_qubits : (s : State) (t : ℕ) → map (λ (e : Entry). e.qubit) (chain s t) ≡ qubits_in s t
chain_qubits s t = qubits_by s t 0 (ions_in s t)
