-- A plan with one operation more.
use Rattle.std.proofs.Common.{arith, ◌≡◌, ℕ, ◌<◌, List, [], ◌∷◌, ◌++◌, map, length, refl, sym, ◌∙◌, subst, Option, Some, None, length-append, IfSome}
use Rattle.std.specs.List.{AllByRecursion}
use Rattle.qccd_base.specs.declared.names.Qubit.{Qubit}
use Rattle.qccd_base.specs.declared.names.TrapId.{TrapId}
use Rattle.qccd_machine.specs.Machine.{MachineData}
use Rattle.op_table.specs.declared.kinds.OpKind.{OpKind}
use Rattle.op_table.specs.declared.kinds.Why.{Why}
use Rattle.op_table.specs.Contents.{content}
use Rattle.op_table.specs.Op.{IsOp, KeepsItemRule}
use Rattle.op_table.specs.State.{State, IsSafe}
use Rattle.op_table.specs.Step.{why, effect}
use Rattle.op_table.specs.Touch.{touches}
use Rattle.op_cells.specs.declared.cells.Cell.{Cell}
use Rattle.op_cells.specs.Cold.{MayRunCold, RanCold}
use Rattle.op_cells.specs.Numbering.{IsThere}
use Rattle.op_cells.specs.Shows.{AreOf, Shows}
use Rattle.op_plan.specs.Cold.{cold}
use Rattle.op_plan.specs.Kept.{AreHomes, Keeps, mover, rehomed}
use Rattle.op_plan.specs.Plan.{PlanData, Agrees, start_state, state_of, wired, with_ops}
use Rattle.op_plan.proofs.Agreeing.{effect_agrees, safe_agrees, shown_agrees, shows_agrees, why_agrees}
use Rattle.op_plan.proofs.Cold.{safe_cold}
use Rattle.op_plan.proofs.Rehomed.{homes_next, mover_below}
use Rattle.op_plan.proofs.Runs.{run_append, state_below, state_ions, state_more, state_safe}
use Rattle.op_plan.proofs.Shown.{all_there, may_run, shows_next, why_cold}

all_more : {X : Type 0} (P : X → Type 0) (xs : List X) (x : X) → AllByRecursion P xs → P x → AllByRecursion P (xs ++ x ∷ [])
all_more P [] x all own = (own, tt)
all_more P (y ∷ xs) x all own = (all.0, all_more P xs x all.1 own)

legal_wired : (m : MachineData) (p : PlanData) (op : OpKind) → Agrees m p → why m (state_of p) op ≡ None → why (wired p) (state_of p) op ≡ None
legal_wired m p op agrees legal = sym (why_agrees m p (state_of p) op agrees) ∙ legal

pub keeps_next : (m : MachineData) (p : PlanData) (op : OpKind) (old new : List Cell) (traps moved : List (Option TrapId)) → Agrees m p → Keeps p old traps → IsOp op → KeepsItemRule op → length p.ops < 4194304 → why m (state_of p) op ≡ None
    → ((bits : ℕ) → RanCold m bits op old new) → moved ≡ rehomed (mover op (map (content (cold (state_of p))) (touches op))) traps → Keeps (with_ops p (op ∷ [])) new moved
keeps_next m p op old new traps moved agrees keeps kept fits few legal ran is =
    let s : State = state_of p in
    let z : State = effect (wired p) s op in
    let safe : IsSafe (wired p) s = state_safe p keeps.plan in
    let legal_here : why (wired p) s op ≡ None = legal_wired m p op agrees legal in
    let shown : Shows m (cold (effect m s op)) new = shows_next m s op old new (safe_agrees m p s agrees safe) kept legal (shows_agrees m p (cold s) old agrees keeps.shows) ran in
    let shows : Shows (wired p) (cold z) new = shown_agrees m p (cold z) new agrees (subst (λ (v : State). Shows m (cold v) new) (effect_agrees m p s op agrees) shown) in
    let now : state_of (with_ops p (op ∷ [])) ≡ z = state_more p (op ∷ []) in
    record {
      plan = record {
        few = omega (arith, length-append p.ops (op ∷ []), few);
        start = keeps.plan.start;
        ops = all_more IsOp p.ops op keeps.plan.ops kept;
        items = all_more KeepsItemRule p.ops op keeps.plan.items fits;
        run = run_append (wired p) (start_state p) p.ops (op ∷ []) keeps.plan.run (legal_here, tt);
      };
      sizes = keeps.sizes;
      shows = subst (λ (v : State). Shows (wired p) (cold v) new) (sym now) shows;
      homes = subst (λ (v : State). AreHomes v p.qubits moved) (sym now)
          (subst (λ (xs : List (Option TrapId)). AreHomes z p.qubits xs) (sym is) (homes_next (wired p) s op p.qubits traps safe kept legal_here (state_ions p) (state_below p) keeps.homes));
    }

-- what it touches is there
pub touches_there : (m : MachineData) (p : PlanData) (op : OpKind) (cells : List Cell) (traps : List (Option TrapId)) → Agrees m p → Keeps p cells traps → IsOp op → why m (state_of p) op ≡ None → AllByRecursion (IsThere (wired p) (state_of p).bits) (touches op)
touches_there m p op cells traps agrees keeps kept legal = all_there (wired p) (state_of p) op (state_safe p keeps.plan) kept (legal_wired m p op agrees legal)

pub may_next : (m : MachineData) (p : PlanData) (op : OpKind) (cells : List Cell) (traps : List (Option TrapId)) → Agrees m p → Keeps p cells traps → IsOp op → why m (state_of p) op ≡ None → MayRunCold m op cells
may_next m p op cells traps agrees keeps kept legal =
    may_run m (state_of p) op cells (safe_agrees m p (state_of p) agrees (state_safe p keeps.plan)) kept legal (shows_agrees m p (cold (state_of p)) cells agrees keeps.shows)

if_some : {X : Type 0} (P : X → Type 0) (o : Option X) → ((x : X) → o ≡ Some x → P x) → IfSome o P
if_some P None h = tt
if_some P (Some x) h = h x refl

pub moves_within : (p : PlanData) (op : OpKind) (cells : List Cell) (traps : List (Option TrapId)) (moving : Option (Qubit × Option TrapId)) → Keeps p cells traps → moving ≡ mover op (map (content (cold (state_of p))) (touches op))
    → IfSome moving (λ x. x.0.0 < length traps)
moves_within p op cells traps moving keeps is =
    if_some (λ (x : Qubit × Option TrapId). x.0.0 < length traps) moving (λ x at.
    subst (λ (n : ℕ). x.0.0 < n) (sym keeps.homes.long) (mover_below (wired p) (state_of p) op p.qubits x (state_safe p keeps.plan) (state_below p) (sym is ∙ at)))

-- the cells are of each machine that agrees, and tell its causes
pub cells_of : (m : MachineData) (p : PlanData) (cells : List Cell) (traps : List (Option TrapId)) → Agrees m p → Keeps p cells traps → AreOf m cells
cells_of m p cells traps agrees keeps = record {
  state = cold (state_of p);
  safe = safe_cold m (state_of p) (safe_agrees m p (state_of p) agrees (state_safe p keeps.plan));
  shows = shows_agrees m p (cold (state_of p)) cells agrees keeps.shows;
}

why_told : (m : MachineData) (p : PlanData) (op : OpKind) (cells : List Cell) (traps : List (Option TrapId)) → Agrees m p → Keeps p cells traps → IsOp op → why m (cold (state_of p)) op ≡ why m (state_of p) op
why_told m p op cells traps agrees keeps kept = why_cold m (state_of p) op (safe_agrees m p (state_of p) agrees (state_safe p keeps.plan)) kept

-- what is told of any state that they show is told of the plan's
pub why_read : (m : MachineData) (p : PlanData) (op : OpKind) (cells : List Cell) (traps : List (Option TrapId)) (answer : Option Why) → Agrees m p → Keeps p cells traps → IsOp op
    → ((s : State) → IsSafe m s → Shows m s cells → answer ≡ why m s op) → answer ≡ why m (state_of p) op
why_read m p op cells traps answer agrees keeps kept told =
    told (cold (state_of p)) (safe_cold m (state_of p) (safe_agrees m p (state_of p) agrees (state_safe p keeps.plan))) (shows_agrees m p (cold (state_of p)) cells agrees keeps.shows) ∙ why_told m p op cells traps agrees keeps kept
