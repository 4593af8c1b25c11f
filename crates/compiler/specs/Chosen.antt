-- The program that is chosen for a circuit.
use Rattle.std.specs.Prelude.{◌≡◌, ℕ, zero, suc, ◌-◌, ◌<◌, ◌≤◌, Bool, true, false, List, [], ◌∷◌, length, replicate, set, take, Option, Some, None, slice_get}
use Rattle.qccd_base.specs.declared.names.Mode.{Mode}
use Rattle.qccd_circuit.specs.Item.{ItemData}
use Rattle.qccd_circuit.specs.Circuit.{CircuitData}
use Rattle.qccd_machine.specs.Machine.{MachineData, worst_of}
use Rattle.op_table.specs.declared.kinds.OpKind.{OpKind}
use Rattle.op_table.specs.Run.{after}
use Rattle.op_table.specs.State.{State, opening}
use Rattle.op_plan.specs.Plan.{PlanData, begun, with_ops}
use Rattle.qccd_program.specs.Program.{ProgramData}
use Rattle.ion_mapping.specs.Placement.{chains_at_start}
use Rattle.gate_scheduler.specs.Pick.{pick}
use Rattle.compiler.specs.Items.{item_ops, items_ops}

-- an item, with its number, before others
abbrev pub with_item : ℕ → Option ItemData → List (ℕ × ItemData) → List (ℕ × ItemData)
with_item i None rest = rest
with_item i (Some item) rest = (i, item) ∷ rest

-- the items of these numbers, with their numbers
abbrev pub numbered : List ItemData → List ℕ → List (ℕ × ItemData)
numbered items [] = []
numbered items (i ∷ numbers) = with_item i (slice_get items i) (numbered items numbers)

-- the operations of the item of a number
abbrev pub ops_of : MachineData → Mode → ℕ → Option ItemData → State → List OpKind
ops_of m mode i None s = []
ops_of m mode i (Some item) s = item_ops m mode i item item.kind s

-- the item that is picked, and then those that are picked where it is taken and compiled
abbrev pub and_then : MachineData → Mode → List ItemData → List Bool → State → (List Bool → State → List ℕ) → Option ℕ → List ℕ
and_then m mode items taken s more None = []
and_then m mode items taken s more (Some i) = i ∷ more (set taken i true) (after m s (ops_of m mode i (slice_get items i) s))

-- that many items, picked one after another
abbrev pub picked_from : MachineData → Mode → List ItemData → ℕ → List Bool → State → List ℕ
picked_from m mode items zero taken s = []
picked_from m mode items (suc n) taken s = and_then m mode items taken s (picked_from m mode items n) (pick items taken s)

-- all items in the order in which they are picked, from the placement on
unfoldable pub picked : CircuitData → MachineData → Mode → List ℕ
picked c m mode = picked_from m mode c.items (length c.items) (replicate (length c.items) false) (opening c.qubits c.bits (chains_at_start c m))

-- from the placement on, the operations of the first items in their order, as many as count says
unfoldable pub chosen_first : CircuitData → MachineData → Mode → ℕ → ProgramData
chosen_first c m mode count = record {
  machine = m;
  qubits = c.qubits;
  bits = c.bits;
  mode = Some mode;
  start = chains_at_start c m;
  ops = items_ops m mode (numbered c.items (take count (picked c m mode))) (opening c.qubits c.bits (chains_at_start c m));
}

-- and those of all items
abbrev pub chosen : CircuitData → MachineData → Mode → ProgramData
chosen c m mode = chosen_first c m mode (length c.items)

abbrev pub chosen_long : CircuitData → MachineData → Mode → ℕ → ℕ
chosen_long c m mode count = length (chosen_first c m mode count).ops

-- the plan that has the operations of the first so many items
abbrev pub planned : CircuitData → MachineData → Mode → ℕ → PlanData
planned c m mode count = with_ops (begun m c.qubits c.bits (chains_at_start c m)) (chosen_first c m mode count).ops

-- before some item there are too many operations for the most that it may need; of the first such item, how
-- many items stand before it and how many operations there are
pub record IsTooLong (c : CircuitData) (m : MachineData) (mode : Mode) (done ops : ℕ) : Type 0 where
  pub before_an_item : done < length c.items
  pub operations : chosen_long c m mode done ≡ ops
  pub too_many : 4194304 - worst_of m < ops
  pub first : (earlier : ℕ) → earlier < done → chosen_long c m mode earlier ≤ 4194304 - worst_of m
