-- The items that are left, while they are picked and compiled one after another.
use Rattle.std.proofs.Common.{◌≡◌, ℕ, zero, suc, ◌+◌, ◌-◌, ◌<◌, ◌≤◌, Bool, true, false, List, [], ◌∷◌, ◌++◌, drop, length, refl, sym, ◌∙◌, ap, arith, Option, Some, None, subst}
use Rattle.std.specs.Prelude.{replicate, slice_get}
use Rattle.std.proofs.Math.ListN.{set}
use Rattle.qccd_base.specs.declared.names.Mode.{Mode}
use Rattle.qccd_circuit.specs.Circuit.{CircuitData}
use Rattle.qccd_circuit.specs.Item.{ItemData}
use Rattle.qccd_machine.specs.Machine.{MachineData}
use Rattle.op_table.specs.declared.kinds.OpKind.{OpKind}
use Rattle.op_table.specs.Run.{after}
use Rattle.op_table.specs.State.{State, opening}
use Rattle.op_plan.specs.Plan.{PlanData, state_of, with_ops}
use Rattle.op_plan.proofs.Runs.{after_append}
use Rattle.ion_mapping.specs.Placement.{chains_at_start}
use Rattle.dep_graph.specs.Ready.{Follows, ReadyData, is_ready}
use Rattle.gate_scheduler.specs.Pick.{pick}
use Rattle.gate_scheduler.proofs.Picking.{picked_is_ready}
use Rattle.compiler.specs.Chosen.{and_then, chosen_first, ops_of, picked, picked_from, planned}
use Rattle.compiler.specs.Items.{item_ops}
use Rattle.compiler.proofs.Choosing.{chosen_state, next_item, order_below}
use Rattle.compiler.proofs.Picked.{next_picked, picked_long}
use Rattle.compiler.proofs.Planning.{compiled_next, planned_state}

-- so many items are compiled and taken, and those that are left are picked from here on
pub record Goes (c : CircuitData) (m : MachineData) (mode : Mode) (done : ℕ) (p : PlanData) (r : ReadyData) : Type 0 where
  pub plan : p ≡ planned c m mode done
  pub follows : Follows c.items r
  pub rest : drop done (picked c m mode) ≡ picked_from m mode c.items (length c.items - done) r.taken (chosen_state c m mode done)

-- ---- lists that are gone through

drop_first : (xs : List ℕ) (k i : ℕ) (ys : List ℕ) → drop k xs ≡ i ∷ ys → (slice_get xs k ≡ Some i) × (drop (suc k) xs ≡ ys)
drop_first [] zero i ys is = cc
drop_first [] (suc k) i ys is = cc
drop_first (x ∷ xs) zero i ys is = let same : x ≡ i = cc in let rest : xs ≡ ys = cc in (ap (λ y. Some y) same, rest)
drop_first (x ∷ xs) (suc k) i ys is = drop_first xs k i ys is

drop_long : (xs : List ℕ) (k : ℕ) → length (drop k xs) ≡ length xs - k
drop_long [] zero = omega arith
drop_long [] (suc k) = omega arith
drop_long (x ∷ xs) zero = omega arith
drop_long (x ∷ xs) (suc k) = omega (arith, drop_long xs k)

drop_none : (xs : List ℕ) → drop 0 xs ≡ xs
drop_none [] = refl
drop_none (x ∷ xs) = refl

-- ---- the first item

first_state : (c : CircuitData) (m : MachineData) (mode : Mode) → chosen_state c m mode 0 ≡ opening c.qubits c.bits (chains_at_start c m)
unfolding chosen_first
first_state c m mode = refl

all_first : (c : CircuitData) (m : MachineData) (mode : Mode) → picked c m mode ≡ picked_from m mode c.items (length c.items) (replicate (length c.items) false) (opening c.qubits c.bits (chains_at_start c m))
unfolding picked
all_first c m mode = refl

pub goes_first : (c : CircuitData) (m : MachineData) (mode : Mode) (p : PlanData) (r : ReadyData) → p ≡ planned c m mode 0 → Follows c.items r → r.taken ≡ replicate (length c.items) false → Goes c m mode 0 p r
goes_first c m mode p r plan follows none = record {
  plan = plan;
  follows = follows;
  rest = drop_none (picked c m mode) ∙ all_first c m mode ∙ ap (λ (xs : List Bool). picked_from m mode c.items (length c.items) xs (opening c.qubits c.bits (chains_at_start c m))) (sym none) ∙ ap (picked_from m mode c.items (length c.items) r.taken) (sym (first_state c m mode)) ∙ ap (λ n. picked_from m mode c.items n r.taken (chosen_state c m mode 0)) (let all : length c.items ≡ length c.items - 0 = omega arith in all);
}

-- ---- one more

one_left : (n done : ℕ) → done < n → n - done ≡ suc (n - (done + 1))
one_left n done less = omega arith

at_state : (c : CircuitData) (m : MachineData) (mode : Mode) (done : ℕ) (p : PlanData) → p ≡ planned c m mode done → state_of p ≡ chosen_state c m mode done
at_state c m mode done p plan = ap state_of plan ∙ planned_state c m mode done

pub some_left : (c : CircuitData) (m : MachineData) (mode : Mode) (done : ℕ) (p : PlanData) (r : ReadyData) → Goes c m mode done p r → done < length c.items → (i : ℕ) × (pick c.items r.taken (state_of p) ≡ Some i)
some_left c m mode done p r goes less = by (pick c.items r.taken (state_of p)) refl
  where
    here : drop done (picked c m mode) ≡ and_then m mode c.items r.taken (chosen_state c m mode done) (picked_from m mode c.items (length c.items - (done + 1))) (pick c.items r.taken (chosen_state c m mode done))
    here = goes.rest ∙ ap (λ n. picked_from m mode c.items n r.taken (chosen_state c m mode done)) (one_left (length c.items) done less)

    by : (o : Option ℕ) → pick c.items r.taken (state_of p) ≡ o → (i : ℕ) × (pick c.items r.taken (state_of p) ≡ Some i)
    by (Some i) is = (i, is)
    by None is =
        let none : drop done (picked c m mode) ≡ [] = here ∙ ap (and_then m mode c.items r.taken (chosen_state c m mode done) (picked_from m mode c.items (length c.items - (done + 1)))) (ap (pick c.items r.taken) (sym (at_state c m mode done p goes.plan)) ∙ is) in
        absurd (omega (arith, drop_long (picked c m mode) done, ap (λ (xs : List ℕ). length xs) none, picked_long c m mode, less))

-- the item that is picked is the next one
pub record NextIs (c : CircuitData) (m : MachineData) (mode : Mode) (done i : ℕ) (r : ReadyData) : Type 0 where
  pub ready : is_ready c.items r.taken i ≡ true
  pub number : slice_get (picked c m mode) done ≡ Some i
  pub there : i < length c.items
  pub rest : drop (suc done) (picked c m mode) ≡ picked_from m mode c.items (length c.items - (done + 1)) (set r.taken i true) (after m (chosen_state c m mode done) (ops_of m mode i (slice_get c.items i) (chosen_state c m mode done)))

pub next_is : (c : CircuitData) (m : MachineData) (mode : Mode) (done i : ℕ) (p : PlanData) (r : ReadyData) → Goes c m mode done p r → done < length c.items → pick c.items r.taken (state_of p) ≡ Some i → NextIs c m mode done i r
next_is c m mode done i p r goes less is =
    let s : State = chosen_state c m mode done in
    let here : pick c.items r.taken s ≡ Some i = ap (pick c.items r.taken) (sym (at_state c m mode done p goes.plan)) ∙ is in
    let all : drop done (picked c m mode) ≡ i ∷ picked_from m mode c.items (length c.items - (done + 1)) (set r.taken i true) (after m s (ops_of m mode i (slice_get c.items i) s)) =
    goes.rest ∙ ap (λ n. picked_from m mode c.items n r.taken s) (one_left (length c.items) done less) ∙ next_picked m mode c.items (length c.items - (done + 1)) i r.taken s here in
    let parts = drop_first (picked c m mode) done i _ all in
    record {
      ready = picked_is_ready c.items r.taken s i here;
      number = parts.0;
      there = order_below c m mode done i parts.0;
      rest = parts.1;
    }

pub goes_next : (c : CircuitData) (m : MachineData) (mode : Mode) (done i : ℕ) (item : ItemData) (p new : PlanData) (r later : ReadyData) → Goes c m mode done p r → NextIs c m mode done i r → slice_get c.items i ≡ Some item
    → new ≡ with_ops p (item_ops m mode i item item.kind (state_of p)) → later.taken ≡ set r.taken i true → Follows c.items later → Goes c m mode (done + 1) new later
goes_next c m mode done i item p new r later goes next is compiled taken follows =
    let s : State = chosen_state c m mode done in
    let ops : List OpKind = item_ops m mode i item item.kind s in
    let same : ops_of m mode i (slice_get c.items i) s ≡ ops = ap (λ (o : Option ItemData). ops_of m mode i o s) is in
    let more : suc done ≡ done + 1 = omega arith in
    let state : chosen_state c m mode (suc done) ≡ after m s ops =
    ap (after m (opening c.qubits c.bits (chains_at_start c m))) (next_item c m mode done i item next.number is) ∙ after_append m (opening c.qubits c.bits (chains_at_start c m)) (chosen_first c m mode done).ops ops in
    record {
      plan = compiled_next c m mode done i item p new next.number is goes.plan compiled;
      follows = follows;
      rest = subst (λ (k : ℕ). drop k (picked c m mode) ≡ picked_from m mode c.items (length c.items - (done + 1)) later.taken (chosen_state c m mode k)) more
          (next.rest ∙ ap (λ (xs : List OpKind). picked_from m mode c.items (length c.items - (done + 1)) (set r.taken i true) (after m s xs)) same
          ∙ ap (λ (z : State). picked_from m mode c.items (length c.items - (done + 1)) (set r.taken i true) z) (sym state) ∙ ap (λ (xs : List Bool). picked_from m mode c.items (length c.items - (done + 1)) xs (chosen_state c m mode (suc done))) (sym taken));
    }

pub same_qubits : (c : CircuitData) (m : MachineData) (mode : Mode) (done : ℕ) (p : PlanData) → p ≡ planned c m mode done → c.qubits ≤ p.qubits
same_qubits c m mode done p plan = omega (arith, ap (λ (x : PlanData). x.qubits) plan)
