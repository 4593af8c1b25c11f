-- What a plan keeps beside its operations.
use Rattle.std.specs.Prelude.{◌≡◌, ℕ, ◌<◌, ◌≤◌, All, List, [], ◌∷◌, length, set, Option, Some, None, option_map, slice_get}
use Rattle.qccd_base.specs.declared.names.Ion.{Ion}
use Rattle.qccd_base.specs.declared.names.Qubit.{Qubit}
use Rattle.qccd_base.specs.declared.names.TrapId.{TrapId}
use Rattle.op_table.specs.declared.contents.Content.{Content}
use Rattle.op_table.specs.declared.contents.Entry.{Entry}
use Rattle.op_table.specs.declared.contents.Rider.{Rider}
use Rattle.op_table.specs.declared.kinds.OpKind.{OpKind}
use Rattle.op_table.specs.declared.kinds.OpKind.TheVariants.{Split, Move, Enter, Leave, Merge, Rot, GSwap, Item, Fence}
use Rattle.op_table.specs.Act.{chain_in, end_index, first, rider_in, second}
use Rattle.op_table.specs.State.{State}
use Rattle.op_cells.specs.declared.cells.Cell.{Cell}
use Rattle.op_cells.specs.Shows.{Shows}
use Rattle.op_plan.specs.Cold.{cold}
use Rattle.op_plan.specs.Place.{home}
use Rattle.op_plan.specs.Plan.{PlanData, IsPlan, state_of, wired}

-- the trap in which each of n qubits stands, or none
pub record AreHomes (s : State) (n : ℕ) (traps : List (Option TrapId)) : Type 0 where
  pub long : length traps ≡ n
  pub each : (q : Qubit) → q.0 < n → slice_get traps q.0 ≡ Some (home s q)

-- the traps are of a machine's size, the cells hold, cold, what the resources hold after the operations,
-- and each qubit's trap is noted
pub record Keeps (p : PlanData) (cells : List Cell) (traps : List (Option TrapId)) : Type 0 where
  pub plan : IsPlan p
  pub sizes : All (λ c. c ≤ 32) p.capacities
  pub shows : Shows (wired p) (cold (state_of p)) cells
  pub homes : AreHomes (state_of p) p.qubits traps

-- the qubit that an operation takes out of its trap or brings into one, with the trap in which it then
-- is, by what the touched resources hold
abbrev pub mover : OpKind → List Content → Option (Qubit × Option TrapId)
mover (Split t e g) cs = option_map (λ (x : Entry). (x.qubit, None)) (slice_get (chain_in (first cs)) (end_index e (chain_in (first cs))))
mover (Move g) cs = None
mover (Enter g j) cs = None
mover (Leave j g) cs = None
mover (Merge g t e) cs = option_map (λ (r : Rider). (r.entry.qubit, Some t)) (rider_in (second cs))
mover (Rot t p) cs = None
mover (GSwap t low high) cs = None
mover (Item number t item at) cs = None
mover (Fence number item traps) cs = None

abbrev pub rehomed : Option (Qubit × Option TrapId) → List (Option TrapId) → List (Option TrapId)
rehomed None traps = traps
rehomed (Some x) traps = set traps x.0.0 x.1

-- the ions of a start chain carry the qubits of their numbers into the trap
abbrev pub housed : TrapId → List Ion → List (Option TrapId) → List (Option TrapId)
housed t [] traps = traps
housed t (x ∷ ions) traps = housed t ions (set traps x.0 (Some t))
