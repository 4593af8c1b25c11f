-- When a transport program implements a circuit.
use Rattle.std.specs.Prelude.{◌≡◌, ℕ, List, map, All, Some, slice_get, IsTrue}
use Rattle.std.specs.List.{AllByRecursion}
use Rattle.qccd_base.specs.declared.names.TrapId.{TrapId}
use Rattle.qccd_circuit.specs.Item.{ItemData}
use Rattle.qccd_circuit.specs.Order.{SameOrder}
use Rattle.qccd_circuit.specs.Circuit.{CircuitData}
use Rattle.qccd_machine.specs.Machine.{MachineData}
use Rattle.op_table.specs.declared.kinds.OpKind.TheVariants.{Item}
use Rattle.op_table.specs.Op.{IsOp}
use Rattle.op_table.specs.State.{IsSafe}
use Rattle.op_table.specs.Step.{carries}
use Rattle.op_table.specs.Run.{IsRun, items_in}
use Rattle.op_table.specs.Start.{IsStart}
use Rattle.qccd_program.specs.Program.{ProgramData, opening_of, before}

-- the program is for this machine and this circuit, its operations are a run from its start chains, and
-- its items are the circuit's, in an order that keeps each two that share
pub record Implements (p : ProgramData) (c : CircuitData) (m : MachineData) : Type 0 where
  pub machine : p.machine ≡ m
  pub qubits : p.qubits ≡ c.qubits
  pub bits : p.bits ≡ c.bits
  pub start : IsStart m p.qubits p.start
  pub ops : AllByRecursion IsOp p.ops
  pub run : IsRun m (opening_of p) p.ops
  pub items : All (λ e. slice_get c.items e.0 ≡ Some e.1) (items_in p.ops)
  pub order : SameOrder c.items (map (λ e. e.0) (items_in p.ops))

-- every place keeps its bound, in every state of the run
abbrev pub KeepsBounds : ProgramData → Type 0
KeepsBounds p = (k : ℕ) → IsSafe p.machine (before p k)

-- each item meets exactly its operands: just before it the positions that it names in its one trap carry
-- its qubits, in their order
abbrev pub MeetsOperands : ProgramData → Type 0
MeetsOperands p = (k number : ℕ) (t : TrapId) (item : ItemData) (at : List ℕ) → slice_get p.ops k ≡ Some (Item number t item at)
    → IsTrue (carries (before p k) t.0 at item.qubits)
