-- Each operation that is chosen in a mode is of that mode.
use Rattle.std.proofs.Common.{◌≡◌, ℕ, zero, suc, ◌+◌, ◌-◌, Bool, true, false, cond, eqb, List, [], ◌∷◌, ◌++◌, length, refl, ap, take, Option, Some, None, subst}
use Rattle.std.specs.Prelude.{IsTrue, option_map, slice_get, unwrap_or}
use Rattle.std.specs.List.{AllByRecursion}
use Rattle.qccd_base.specs.Names.{trap, segment}
use Rattle.qccd_base.specs.declared.names.Qubit.{Qubit}
use Rattle.qccd_base.specs.declared.names.Res.{Res}
use Rattle.qccd_base.specs.declared.names.Res.TheVariants as res
use Rattle.qccd_base.specs.declared.names.End.{End}
use Rattle.qccd_base.specs.declared.names.End.TheVariants.{Left, Right}
use Rattle.qccd_base.specs.declared.names.Mode.{Mode}
use Rattle.qccd_base.specs.declared.names.Mode.TheVariants.{IonSwap, GateSwap}
use Rattle.qccd_circuit.specs.Item.{ItemData}
use Rattle.qccd_circuit.specs.Circuit.{CircuitData}
use Rattle.qccd_circuit.specs.declared.kinds.ItemKind.{ItemKind}
use Rattle.qccd_circuit.specs.declared.kinds.ItemKind.TheVariants.{Gate1, Gate2, Measure, Reset, Barrier}
use Rattle.qccd_machine.specs.declared.place.Place.{Place}
use Rattle.qccd_machine.specs.declared.place.Place.TheVariants.{TrapEnd, Junction}
use Rattle.qccd_machine.specs.Machine.{MachineData, site}
use Rattle.op_table.specs.declared.kinds.OpKind.{OpKind}
use Rattle.op_table.specs.declared.kinds.OpKind.TheVariants.{GSwap}
use Rattle.op_table.specs.Run.{after}
use Rattle.op_table.specs.State.{State, ions_in, opening}
use Rattle.op_plan.specs.Place.{position_of, trap_of}
use Rattle.router.specs.Hops.{distance, next_hop}
use Rattle.router.specs.Paths.{hop_path, way_along}
use Rattle.router.specs.Wiring.{wiring_of}
use Rattle.chain_reorder.specs.Reorder.{rots_down, rots_up, to_end}
use Rattle.rebalancer.specs.Hop.{along, along_way, arrive_by, hop_ops, leave_by, leaving_end}
use Rattle.rebalancer.specs.Room.{hand_ops, handed, hands_ops, has_room, nearest, room_ops, then_for, way_to}
use Rattle.compiler.specs.Bring.{bring, hop_on, hop_with_room, room_where_full, together}
use Rattle.ion_mapping.specs.Placement.{chains_at_start}
use Rattle.compiler.specs.Chosen.{chosen_first, numbered, picked}
use Rattle.compiler.specs.Items.{in_trap, item_ops, items_ops}
use Rattle.qccd_program.specs.Mode.{is_of_mode}

abbrev pub AreOfMode : Mode → List OpKind → Type 0
AreOfMode mode ops = AllByRecursion (λ op. IsTrue (is_of_mode (Some mode) op)) ops

both : (mode : Mode) (a b : List OpKind) → AreOfMode mode a → AreOfMode mode b → AreOfMode mode (a ++ b)
both mode [] b first second = second
both mode (op ∷ a) b first second = (first.0, both mode a b first.1 second)

along_of : (mode : Mode) (m : MachineData) (path : List ℕ) (from : Res) → AreOfMode mode (along m path from)
along_of mode m [] from = tt
along_of mode m (g ∷ path) from = by_way (way_along (wiring_of m) from g) (λ next. along_of mode m path next)
  where
    leaves : (p : Place) → IsTrue (is_of_mode (Some mode) (leave_by g p))
    leaves (TrapEnd t e) = refl
    leaves (Junction j) = refl

    arrives : (p : Place) → IsTrue (is_of_mode (Some mode) (arrive_by g p))
    arrives (TrapEnd t e) = refl
    arrives (Junction j) = refl

    by_way : (way : Option (Place × Place)) → ((next : Res) → AreOfMode mode (along m path next)) → AreOfMode mode (along_way g way (along m path))
    by_way None more = tt
    by_way (Some ends) more = (leaves ends.0, (refl, (arrives ends.1, more (site ends.1))))

down_of : (t p : ℕ) → AreOfMode IonSwap (rots_down t p)
down_of t zero = tt
down_of t (suc p) = (refl, down_of t p)

up_of : (t p k : ℕ) → AreOfMode IonSwap (rots_up t p k)
up_of t p zero = tt
up_of t p (suc k) = (refl, up_of t (p + 1) k)

to_end_of : (t n p : ℕ) (end : End) (mode : Mode) → AreOfMode mode (to_end t n p end mode)
to_end_of t n p Left IonSwap = down_of t p
to_end_of t n p Right IonSwap = up_of t p (n - 1 - p)
to_end_of t n p Left GateSwap = either (eqb p 0) (GSwap (trap t) 0 p ∷ []) (by_one t 0 p)
  where
    by_one : (t low high : ℕ) → AreOfMode GateSwap (GSwap (trap t) low high ∷ [])
    by_one t low high = (refl, tt)

    either : (b : Bool) (ops : List OpKind) → AreOfMode GateSwap ops → AreOfMode GateSwap (cond b [] ops)
    either true ops is = tt
    either false ops is = is
to_end_of t n p Right GateSwap = either (eqb (p + 1) n) (GSwap (trap t) p (n - 1) ∷ []) (by_one t p (n - 1))
  where
    by_one : (t low high : ℕ) → AreOfMode GateSwap (GSwap (trap t) low high ∷ [])
    by_one t low high = (refl, tt)

    either : (b : Bool) (ops : List OpKind) → AreOfMode GateSwap ops → AreOfMode GateSwap (cond b [] ops)
    either true ops is = tt
    either false ops is = is

hop_of : (m : MachineData) (s : State) (q : Qubit) (to : ℕ) (mode : Mode) → AreOfMode mode (hop_ops m s q to mode)
unfolding hop_ops
hop_of m s q to mode =
    let path : List ℕ = unwrap_or (hop_path (wiring_of m) (trap_of s q) to) [] in
    both mode _ (along m path (res.Trap (trap (trap_of s q)))) (to_end_of (trap_of s q) (ions_in s (trap_of s q)) (position_of s q) (leaving_end m (trap_of s q) path) mode) (along_of mode m path (res.Trap (trap (trap_of s q))))

hand_of : (m : MachineData) (s : State) (keep : Qubit × Qubit) (mode : Mode) (t u : ℕ) → AreOfMode mode (hand_ops m s keep mode t u)
hand_of m s keep mode t u = by (handed m s t u keep)
  where
    by : (o : Option Qubit) → AreOfMode mode (unwrap_or (option_map (λ q. hop_ops m s q u mode) o) [])
    by None = tt
    by (Some q) = hop_of m s q u mode

hands_of : (m : MachineData) (s : State) (keep : Qubit × Qubit) (mode : Mode) (way : List ℕ) → AreOfMode mode (hands_ops m s keep mode way)
hands_of m s keep mode [] = tt
hands_of m s keep mode (t ∷ []) = tt
hands_of m s keep mode (t ∷ u ∷ way) =
    both mode (hands_ops m s keep mode (u ∷ way)) (hand_ops m (after m s (hands_ops m s keep mode (u ∷ way))) keep mode t u) (hands_of m s keep mode (u ∷ way)) (hand_of m (after m s (hands_ops m s keep mode (u ∷ way))) keep mode t u)

room_of : (m : MachineData) (s : State) (t : ℕ) (keep : Qubit × Qubit) (mode : Mode) → AreOfMode mode (room_ops m s t keep mode)
unfolding room_ops
room_of m s t keep mode = hands_of m s keep mode (way_to m (unwrap_or (nearest m s t) t) (distance (wiring_of m) t (unwrap_or (nearest m s t) t)) t)

where_full_of : (m : MachineData) (mode : Mode) (a b : Qubit) (to : ℕ) (s : State) → AreOfMode mode (room_where_full m mode a b to s)
where_full_of m mode a b to s = by (has_room m s to)
  where
    by : (has : Bool) → AreOfMode mode (cond has [] (room_ops m s to (a, b) mode))
    by true = tt
    by false = room_of m s to (a, b) mode

hop_on_of : (m : MachineData) (mode : Mode) (a b : Qubit) (s : State) → AreOfMode mode (hop_on m mode a b s)
unfolding hop_on
hop_on_of m mode a b s =
    let to : ℕ = unwrap_or (next_hop (wiring_of m) (trap_of s a) (trap_of s b)) 0 in
    both mode (room_where_full m mode a b to s) (hop_ops m (after m s (room_where_full m mode a b to s)) a to mode) (where_full_of m mode a b to s) (hop_of m (after m s (room_where_full m mode a b to s)) a to mode)

bring_of : (m : MachineData) (mode : Mode) (a b : Qubit) (n : ℕ) (s : State) → AreOfMode mode (bring m mode a b n s)
bring_of m mode a b zero s = tt
bring_of m mode a b (suc n) s =
    let rest : List OpKind = bring m mode a b n (after m s (hop_on m mode a b s)) in
    by (eqb (trap_of s a) (trap_of s b)) (hop_on m mode a b s ++ rest) (both mode (hop_on m mode a b s) rest (hop_on_of m mode a b s) (bring_of m mode a b n (after m s (hop_on m mode a b s))))
  where
    by : (same : Bool) (ops : List OpKind) → AreOfMode mode ops → AreOfMode mode (cond same [] ops)
    by true ops is = tt
    by false ops is = is

together_of : (m : MachineData) (mode : Mode) (qubits : List Qubit) (s : State) → AreOfMode mode (together m mode qubits s)
together_of m mode [] s = tt
together_of m mode (a ∷ []) s = tt
together_of m mode (a ∷ b ∷ more) s = bring_of m mode a b (length m.capacities) s

in_trap_of : (mode : Mode) (s : State) (number : ℕ) (item : ItemData) (qubits : List Qubit) → AreOfMode mode (in_trap s number item qubits)
in_trap_of mode s number item [] = tt
in_trap_of mode s number item (q ∷ qubits) = (refl, tt)

item_of : (m : MachineData) (mode : Mode) (number : ℕ) (item : ItemData) (kind : ItemKind) (s : State) → AreOfMode mode (item_ops m mode number item kind s)
item_of m mode number item Gate1 s = in_trap_of mode s number item item.qubits
item_of m mode number item Measure s = in_trap_of mode s number item item.qubits
item_of m mode number item Reset s = in_trap_of mode s number item item.qubits
item_of m mode number item Barrier s = (refl, tt)
item_of m mode number item Gate2 s =
    both mode (together m mode item.qubits s) (in_trap (after m s (together m mode item.qubits s)) number item item.qubits) (together_of m mode item.qubits s) (in_trap_of mode (after m s (together m mode item.qubits s)) number item item.qubits)

items_of : (m : MachineData) (mode : Mode) (items : List (ℕ × ItemData)) (s : State) → AreOfMode mode (items_ops m mode items s)
items_of m mode [] s = tt
items_of m mode (e ∷ items) s =
    both mode (item_ops m mode e.0 e.1 e.1.kind s) (items_ops m mode items (after m s (item_ops m mode e.0 e.1 e.1.kind s))) (item_of m mode e.0 e.1 e.1.kind s) (items_of m mode items (after m s (item_ops m mode e.0 e.1 e.1.kind s)))

pub chosen_of_mode : (c : CircuitData) (m : MachineData) (mode : Mode) (count : ℕ) → AllByRecursion (λ op. IsTrue (is_of_mode (Some mode) op)) (chosen_first c m mode count).ops
unfolding chosen_first
chosen_of_mode c m mode count = items_of m mode (numbered c.items (take count (picked c m mode))) (opening c.qubits c.bits (chains_at_start c m))
