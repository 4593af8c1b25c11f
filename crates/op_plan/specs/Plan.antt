-- What contracts see of a plan.
use Rattle.std.specs.Prelude.{◌≡◌, ℕ, ◌≤◌, List, [], ◌++◌, length}
use Rattle.std.specs.List.{AllByRecursion}
use Rattle.qccd_base.specs.Times.{usual}
use Rattle.qccd_base.specs.declared.names.Ion.{Ion}
use Rattle.qccd_machine.specs.declared.place.Place.{Place}
use Rattle.qccd_machine.specs.Machine.{MachineData}
use Rattle.op_table.specs.declared.kinds.OpKind.{OpKind}
use Rattle.op_table.specs.Op.{IsOp, KeepsItemRule}
use Rattle.op_table.specs.Run.{IsRun, after}
use Rattle.op_table.specs.Start.{IsStart}
use Rattle.op_table.specs.State.{State, opening}

-- the part of a machine that places need, the numbers of qubits and bits, the start chains and the
-- operations
pub record PlanData : Type 0 where
  pub capacities : List ℕ
  pub junctions : ℕ
  pub segments : List (Place × Place)
  pub qubits : ℕ
  pub bits : ℕ
  pub start : List (List Ion)
  pub ops : List OpKind

abbrev pub plan_data : List ℕ → ℕ → List (Place × Place) → ℕ → ℕ → List (List Ion) → List OpKind → PlanData
plan_data capacities junctions segments qubits bits start ops =
    record { capacities = capacities; junctions = junctions; segments = segments; qubits = qubits; bits = bits; start = start; ops = ops }

-- the plan is for machines with this wiring; nothing is said of their times
pub record Agrees (m : MachineData) (p : PlanData) : Type 0 where
  pub capacities : m.capacities ≡ p.capacities
  pub junctions : m.junctions ≡ p.junctions
  pub segments : m.segments ≡ p.segments

-- one of these machines
abbrev pub wired : PlanData → MachineData
wired p = record { capacities = p.capacities; junctions = p.junctions; segments = p.segments; times = usual }

-- the state of the start chains, and the state that the operations leave, which are the same for each of them
abbrev pub start_state : PlanData → State
start_state p = opening p.qubits p.bits p.start

abbrev pub state_of : PlanData → State
state_of p = after (wired p) (start_state p) p.ops

-- the plan with some operations more
abbrev pub with_ops : PlanData → List OpKind → PlanData
with_ops p ops = record p { ops = p.ops ++ ops }

-- the plan of a machine's start chains, with no operation yet
abbrev pub begun : MachineData → ℕ → ℕ → List (List Ion) → PlanData
begun m qubits bits start = record {
  capacities = m.capacities;
  junctions = m.junctions;
  segments = m.segments;
  qubits = qubits;
  bits = bits;
  start = start;
  ops = [];
}

-- the operations are a run from legal start chains, and not too many; each item keeps the item rule
pub record IsPlan (p : PlanData) : Type 0 where
  pub few : length p.ops ≤ 4194304
  pub start : IsStart (wired p) p.qubits p.start
  pub ops : AllByRecursion IsOp p.ops
  pub items : AllByRecursion KeepsItemRule p.ops
  pub run : IsRun (wired p) (start_state p) p.ops

-- the new plan is the old one with some operations more, which run from where it stood
pub record Continues (old new : PlanData) : Type 0 where
  pub more : List OpKind
  pub run : IsRun (wired old) (state_of old) more
  pub is : new ≡ with_ops old more
