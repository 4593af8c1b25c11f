-- The items in the order in which they are picked.
use Rattle.std.proofs.Common.{◌≡◌, ℕ, zero, suc, ◌+◌, ◌-◌, ◌<◌, ◌≤◌, Bool, true, false, List, [], ◌∷◌, drop, length, refl, sym, ◌∙◌, ap, arith, Option, Some, None}
use Rattle.std.specs.Prelude.{replicate, slice_get}
use Rattle.std.proofs.Math.ListN.{set}
use Rattle.std.proofs.lemmas.List.{length-replicate, length-set}
use Rattle.qccd_base.specs.declared.names.Mode.{Mode}
use Rattle.qccd_circuit.specs.Circuit.{CircuitData}
use Rattle.qccd_circuit.specs.Item.{ItemData}
use Rattle.qccd_circuit.specs.Order.{SameOrder}
use Rattle.qccd_machine.specs.Machine.{MachineData}
use Rattle.op_table.specs.Run.{after}
use Rattle.op_table.specs.State.{State, opening}
use Rattle.ion_mapping.specs.Placement.{chains_at_start}
use Rattle.dep_graph.specs.Ready.{is_ready, is_taken}
use Rattle.dep_graph.proofs.Taking.{ready_parts}
use Rattle.gate_scheduler.specs.Pick.{pick}
use Rattle.gate_scheduler.specs.Takes.{TakesReady}
use Rattle.gate_scheduler.proofs.Picking.{picked_is_ready}
use Rattle.gate_scheduler.proofs.Took.{left, left_at_first, one_taken, some_picked, takes_all}
use Rattle.compiler.specs.Chosen.{and_then, ops_of, picked, picked_from}

-- each was ready where those before it were taken
pub picks_ready : (m : MachineData) (mode : Mode) (items : List ItemData) (n : ℕ) (taken : List Bool) (s : State) → TakesReady items taken (picked_from m mode items n taken s)
picks_ready m mode items zero taken s = tt
picks_ready m mode items (suc n) taken s = by (pick items taken s) refl (λ i. picks_ready m mode items n (set taken i true) (after m s (ops_of m mode i (slice_get items i) s)))
  where
    by : (o : Option ℕ) → pick items taken s ≡ o → ((i : ℕ) → TakesReady items (set taken i true) (picked_from m mode items n (set taken i true) (after m s (ops_of m mode i (slice_get items i) s))))
        → TakesReady items taken (and_then m mode items taken s (picked_from m mode items n) o)
    by None is more = tt
    by (Some i) is more = (picked_is_ready items taken s i is, more i)

-- one more, where one is left
pub next_picked : (m : MachineData) (mode : Mode) (items : List ItemData) (n i : ℕ) (taken : List Bool) (s : State) → pick items taken s ≡ Some i
    → picked_from m mode items (suc n) taken s ≡ i ∷ picked_from m mode items n (set taken i true) (after m s (ops_of m mode i (slice_get items i) s))
next_picked m mode items n i taken s is = ap (and_then m mode items taken s (picked_from m mode items n)) is

-- as many as are left
pub picks_left : (m : MachineData) (mode : Mode) (items : List ItemData) (n : ℕ) (taken : List Bool) (s : State) → length taken ≡ length items → left taken (length items) ≡ n → length (picked_from m mode items n taken s) ≡ n
picks_left m mode items zero taken s long all = refl
picks_left m mode items (suc n) taken s long all =
    let some : (i : ℕ) × (pick items taken s ≡ Some i) = some_picked items taken s n all in
    let parts = ready_parts items taken some.0 (picked_is_ready items taken s some.0 some.1) in
    let fewer : left taken (length items) ≡ 1 + left (set taken some.0 true) (length items) = one_taken taken (length items) some.0 long parts.within parts.fresh in
    ap (λ (xs : List ℕ). length xs) (next_picked m mode items n some.0 taken s some.1)
    ∙ ap suc (picks_left m mode items n (set taken some.0 true) (after m s (ops_of m mode some.0 (slice_get items some.0) s)) (length-set taken some.0 true ∙ long) (omega (arith, fewer, all)))

pub picked_long : (c : CircuitData) (m : MachineData) (mode : Mode) → length (picked c m mode) ≡ length c.items
unfolding picked
picked_long c m mode = picks_left m mode c.items (length c.items) (replicate (length c.items) false) (opening c.qubits c.bits (chains_at_start c m)) (length-replicate (length c.items) false) (left_at_first (length c.items) (length c.items))

pub picked_order : (c : CircuitData) (m : MachineData) (mode : Mode) → SameOrder c.items (picked c m mode)
unfolding picked
picked_order c m mode =
    takes_all c.items (picked c m mode) (picks_ready m mode c.items (length c.items) (replicate (length c.items) false) (opening c.qubits c.bits (chains_at_start c m))) (picked_long c m mode)
