-- A list of operations appended to a plan one by one.
use Rattle.std.proofs.Common.{arith, ◌≡◌, ℕ, ◌+◌, ◌-◌, ◌<◌, ◌≤◌, true, List, [], ◌∷◌, length, get_or, sym, ◌∙◌, ap, ap₂, subst, Some, length-append, append-nil}
use Rattle.std.proofs.lemmas.Bool.{lt-ltb}
use Rattle.std.proofs.lemmas.Option.{same_Some}
use Rattle.qccd_base.specs.declared.names.Qubit.{Qubit}
use Rattle.qccd_base.specs.declared.names.TrapId.{TrapId}
use Rattle.qccd_base.specs.declared.names.End.{End}
use Rattle.qccd_base.specs.declared.names.Mode.{Mode}
use Rattle.qccd_machine.specs.Machine.{MachineData, IsValid}
use Rattle.op_table.specs.declared.contents.Entry.{Entry}
use Rattle.op_table.specs.Contents.{chain}
use Rattle.op_table.proofs.Chains.{length-chain}
use Rattle.op_table.specs.declared.kinds.OpKind.{OpKind}
use Rattle.op_table.specs.Run.{IsRun}
use Rattle.op_table.specs.State.{State, ions_in}
use Rattle.op_table.specs.Step.{has_trap}
use Rattle.op_plan.specs.Place.{home, stands_in, trap_and_position, trap_in, position_in}
use Rattle.op_plan.specs.Plan.{PlanData, Agrees, Continues, IsPlan, state_of, wired, with_ops}
use Rattle.op_plan.proofs.Runs.{one_less, state_safe}
use Rattle.op_plan.proofs.Stands.{Found}
use Rattle.op_plan.proofs.Told.{found_there, trap_there}
use Rattle.chain_reorder.specs.Reorder.{reorder_ops, to_end}
use Rattle.chain_reorder.proofs.Reorder.{to_end_short}

pub agrees_more : (m : MachineData) (cur new : PlanData) (ops : List OpKind) → Agrees m cur → new ≡ with_ops cur ops → Agrees m new
agrees_more m cur new ops agrees is = subst (Agrees m) (sym is) (record { capacities = agrees.capacities; junctions = agrees.junctions; segments = agrees.segments })

-- one operation is appended, and the others are left
pub record Stepped (m : MachineData) (old cur new whole : PlanData) (left : List OpKind) : Type 0 where
  pub all : with_ops new left ≡ whole
  pub run : IsRun (wired new) (state_of new) left
  pub so_far : Continues old new
  pub agrees : Agrees m new
  pub long : length new.ops ≡ length cur.ops + 1

pub stepped : (m : MachineData) (old cur new whole : PlanData) (op : OpKind) (ops left : List OpKind) → ops ≡ op ∷ left → with_ops cur ops ≡ whole → IsRun (wired cur) (state_of cur) ops → Continues old cur → Agrees m cur → new ≡ with_ops cur (op ∷ [])
    → Stepped m old cur new whole left
stepped m old cur new whole op ops left list all run so_far agrees is =
    let r = one_less old cur new whole op left (ap (with_ops cur) (sym list) ∙ all) (subst (IsRun (wired cur) (state_of cur)) list run) so_far is in
    record {
      all = r.0;
      run = r.1;
      so_far = r.2;
      agrees = agrees_more m cur new (op ∷ []) agrees is;
      long = ap (λ (p : PlanData). length p.ops) is ∙ length-append cur.ops (op ∷ []);
    }

pub first_runs : (p : PlanData) (op : OpKind) (ops left : List OpKind) → ops ≡ op ∷ left → IsRun (wired p) (state_of p) ops → IsRun (wired p) (state_of p) (op ∷ [])
first_runs p op ops left list run = let first = subst (IsRun (wired p) (state_of p)) list run in (first.0, tt)

pub begins : (p : PlanData) → Continues p p
begins p = record { more = []; run = tt; is = ap (λ (ops : List OpKind). record p { ops = ops }) (sym (append-nil p.ops)) }

pub ends : (p whole : PlanData) (ops : List OpKind) → ops ≡ [] → with_ops p ops ≡ whole → p ≡ whole
ends p whole ops none all = ap (λ (os : List OpKind). record p { ops = os }) (sym (append-nil p.ops)) ∙ ap (with_ops p) (sym none) ∙ all

-- ---- where the qubit stands

pub record Standing (p : PlanData) (q : Qubit) (t : TrapId) : Type 0 where
  pub index : ℕ
  pub stands : stands_in (state_of p) q ≡ Some (t, index)
  pub within : index < ions_in (state_of p) t.0
  pub fits : ions_in (state_of p) t.0 ≤ get_or p.capacities t.0 0
  pub there : has_trap (wired p) t.0 ≡ true
  pub ops : (end : End) (mode : Mode) → reorder_ops (state_of p) q end mode ≡ to_end t.0 (ions_in (state_of p) t.0) index end mode

pub standing : (p : PlanData) (q : Qubit) (t : TrapId) → IsPlan p → q.0 < p.qubits → home (state_of p) q ≡ Some t → Standing p q t
standing p q t plan below at =
    let s : State = state_of p in
    let found : Found s q t = found_there p q t plan below at in
    let fits : ions_in s t.0 ≤ get_or p.capacities t.0 0 = (state_safe p plan).capacities t.0 in
    record {
      index = found.index;
      stands = ap trap_and_position found.place;
      within = found.within;
      fits = fits;
      there = lt-ltb t.0 (length p.capacities) (trap_there p q t plan below at);
      ops = λ end mode.
          ap₂ (λ (u k : ℕ). to_end u (ions_in s u) k end mode) (ap trap_in found.place) (ap position_in found.place);
    }

-- the chain that is read, of n ions, and the qubit's position in it
pub record Reached (p : PlanData) (q : Qubit) (t : TrapId) (n at : ℕ) : Type 0 where
  pub within : at < n
  pub long : ions_in (state_of p) t.0 ≡ n
  pub fits : n ≤ get_or p.capacities t.0 0
  pub there : has_trap (wired p) t.0 ≡ true
  pub ops : (end : End) (mode : Mode) → reorder_ops (state_of p) q end mode ≡ to_end t.0 n at end mode

pub reached : (p : PlanData) (q : Qubit) (t u : TrapId) (at : ℕ) (es : List Entry) → IsPlan p → q.0 < p.qubits → home (state_of p) q ≡ Some t → stands_in (state_of p) q ≡ Some (u, at) → es ≡ chain (state_of p) t.0
    → Reached p q t (length es) at
reached p q t u at es plan below own place read =
    let s : State = state_of p in
    let st : Standing p q t = standing p q t plan below own in
    let same : st.index ≡ at = ap (λ (x : TrapId × ℕ). x.1) (same_Some (t, st.index) (u, at) (sym st.stands ∙ place)) in
    let long : ions_in s t.0 ≡ length es = sym (ap (λ (xs : List Entry). length xs) read ∙ length-chain (wired p) s t.0 (state_safe p plan)) in
    record {
      within = subst (λ (k : ℕ). k < length es) same (subst (λ (k : ℕ). st.index < k) long st.within);
      long = long;
      fits = subst (λ (k : ℕ). k ≤ get_or p.capacities t.0 0) long st.fits;
      there = st.there;
      ops = λ end mode. st.ops end mode ∙ ap₂ (λ (n k : ℕ). to_end t.0 n k end mode) long same;
    }

pub capacity_small : (m : MachineData) (p : PlanData) (t : ℕ) → IsValid m → Agrees m p → t < length p.capacities → get_or p.capacities t 0 ≤ 32
capacity_small m p t valid agrees less =
    subst (λ (xs : List ℕ). get_or xs t 0 ≤ 32) agrees.capacities (valid.capacities t 0 (subst (λ (xs : List ℕ). t < length xs) (sym agrees.capacities) less)).1

pub listed : (p : PlanData) (q : Qubit) (t : TrapId) (n at : ℕ) (e end : End) (d mode : Mode) → Reached p q t n at → mode ≡ d → end ≡ e → to_end t.0 n at e d ≡ reorder_ops (state_of p) q end mode
listed p q t n at e end d mode r mode_is end_is =
    sym (r.ops e d) ∙ ap₂ (λ (x : End) (y : Mode). reorder_ops (state_of p) q x y) (sym end_is) (sym mode_is)

pub few_ops : (p : PlanData) (q : Qubit) (t : TrapId) (end : End) (mode : Mode) → IsPlan p → q.0 < p.qubits → home (state_of p) q ≡ Some t → length (reorder_ops (state_of p) q end mode) ≤ get_or p.capacities t.0 0 - 1
few_ops p q t end mode plan below own =
    let st : Standing p q t = standing p q t plan below own in
    let short = to_end_short t.0 (ions_in (state_of p) t.0) st.index end mode st.within in
    let same = ap (λ (ops : List OpKind). length ops) (st.ops end mode) in
    let fits = st.fits in
    omega (arith, short, same, fits)
