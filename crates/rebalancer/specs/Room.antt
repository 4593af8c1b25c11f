-- Room in a full trap: each trap on the way to the nearest free place hands a qubit on.
use Rattle.std.specs.Prelude.{◌≡◌, ℕ, zero, suc, ◌<◌, ◌≤◌, Bool, true, false, ◌&&◌, ◌||◌, not, ◌==◌, nat_lt, List, [], ◌∷◌, ◌++◌, length, reverse, find, Option, option_map, unwrap_or, get_or}
use Rattle.std.specs.List.{range_with_len}
use Rattle.qccd_base.specs.Names.{qubit}
use Rattle.qccd_base.specs.declared.names.Qubit.{Qubit}
use Rattle.qccd_base.specs.declared.names.End.{End}
use Rattle.qccd_base.specs.declared.names.End.TheVariants.{Left, Right}
use Rattle.qccd_base.specs.declared.names.Mode.{Mode}
use Rattle.qccd_machine.specs.Machine.{MachineData}
use Rattle.op_table.specs.declared.kinds.OpKind.{OpKind}
use Rattle.op_table.specs.State.{State, ions_in}
use Rattle.op_table.specs.Run.{after}
use Rattle.op_plan.specs.Place.{qubits_in}
use Rattle.router.specs.Hops.{distance, next_hop}
use Rattle.router.specs.Paths.{first_of, hop_path}
use Rattle.router.specs.Wiring.{wiring_of}
use Rattle.rebalancer.specs.Hop.{hop_ops, leaving_end}

-- these operations, and then those for the state that they leave
abbrev pub then_for : MachineData → State → List OpKind → (State → List OpKind) → List OpKind
then_for m s ops more = ops ++ more (after m s ops)

abbrev pub has_room : MachineData → State → ℕ → Bool
has_room m s t = nat_lt (ions_in s t) (get_or m.capacities t 0)

-- the nearest trap with a free slot, of equals the least
unfoldable pub nearest : MachineData → State → ℕ → Option ℕ
nearest m s t =
    let traps = range_with_len 0 (length m.capacities) in
    first_of (λ n. find (λ u. has_room m s u && (distance (wiring_of m) t u == n)) traps) traps

-- a trap with a free slot, where each that is nearer is full, and each as near of a lesser number
pub record IsNearest (m : MachineData) (s : State) (t goal : ℕ) : Type 0 where
  pub there : goal < length m.capacities
  pub room : has_room m s goal ≡ true
  pub nearer_full : (u : ℕ) → u < length m.capacities → distance (wiring_of m) t u < distance (wiring_of m) t goal → has_room m s u ≡ false
  pub lesser_full : (u : ℕ) → u < goal → distance (wiring_of m) t u ≡ distance (wiring_of m) t goal → has_room m s u ≡ false

-- the goal has a free slot, and each trap that is nearer to t has two ions or more
pub record LeadsToRoom (m : MachineData) (s : State) (t goal : ℕ) : Type 0 where
  pub there : t < length m.capacities
  pub goal_there : goal < length m.capacities
  pub room : has_room m s goal ≡ true
  pub crowded : (u : ℕ) → u < length m.capacities → distance (wiring_of m) t u < distance (wiring_of m) t goal → 2 ≤ ions_in s u

-- the traps from t to the goal, by the next hop each, so many hops in all
abbrev pub way_to : MachineData → ℕ → ℕ → ℕ → List ℕ
way_to m goal zero t = t ∷ []
way_to m goal (suc n) t = t ∷ way_to m goal n (unwrap_or (next_hop (wiring_of m) t goal) t)

-- two qubits as a pair
abbrev pub pair_of : List Qubit → Qubit × Qubit
pair_of qubits = (get_or qubits 0 (qubit 0), get_or qubits 1 (qubit 0))

abbrev pub is_kept : Qubit × Qubit → Qubit → Bool
is_kept keep q = (q.0 == keep.0.0) || (q.0 == keep.1.0)

-- the chain as it is seen from an end
abbrev pub seen_from : {X : Type 0} → End → List X → List X
seen_from Left chain = chain
seen_from Right chain = reverse chain

-- of these qubits, the one nearest to an end that is not kept
abbrev pub first_free : List Qubit → End → Qubit × Qubit → Option Qubit
first_free qubits end keep = find (λ q. not (is_kept keep q)) (seen_from end qubits)

-- of the qubits of trap t, the one nearest to the end by which a hop to trap u leaves that is not kept
abbrev pub handed : MachineData → State → ℕ → ℕ → Qubit × Qubit → Option Qubit
handed m s t u keep =
    first_free (qubits_in s t) (leaving_end m t (unwrap_or (hop_path (wiring_of m) t u) [])) keep

-- trap t hands one qubit to trap u
abbrev pub hand_ops : MachineData → State → Qubit × Qubit → Mode → ℕ → ℕ → List OpKind
hand_ops m s keep mode t u = unwrap_or (option_map (λ q. hop_ops m s q u mode) (handed m s t u keep)) []

-- each trap of a way hands one qubit to the next, from the trap before the goal back to the first
abbrev pub hands_ops : MachineData → State → Qubit × Qubit → Mode → List ℕ → List OpKind
hands_ops m s keep mode [] = []
hands_ops m s keep mode (t ∷ []) = []
hands_ops m s keep mode (t ∷ u ∷ way) = then_for m s (hands_ops m s keep mode (u ∷ way)) (λ s. hand_ops m s keep mode t u)

unfoldable pub room_ops : MachineData → State → ℕ → Qubit × Qubit → Mode → List OpKind
room_ops m s t keep mode =
    let goal = unwrap_or (nearest m s t) t in
    hands_ops m s keep mode (way_to m goal (distance (wiring_of m) t goal) t)
