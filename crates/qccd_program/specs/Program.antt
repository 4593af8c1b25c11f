-- A transport program and its run.
use Rattle.std.specs.Prelude.{ℕ, List, Option, take}
use Rattle.qccd_base.specs.declared.names.Ion.{Ion}
use Rattle.qccd_base.specs.declared.names.Mode.{Mode}
use Rattle.qccd_machine.specs.Machine.{MachineData}
use Rattle.op_table.specs.declared.kinds.OpKind.{OpKind}
use Rattle.op_table.specs.State.{State, opening}
use Rattle.op_table.specs.Run.{after}

-- operations on a machine, with the numbers of qubits and of bits, the mode where it names one, and the chains at the start
pub record ProgramData : Type 0 where
  pub machine : MachineData
  pub qubits : ℕ
  pub bits : ℕ
  pub mode : Option Mode
  pub start : List (List Ion)
  pub ops : List OpKind

abbrev pub program_data : MachineData → ℕ → ℕ → Option Mode → List (List Ion) → List OpKind → ProgramData
program_data machine qubits bits mode start ops =
    record { machine = machine; qubits = qubits; bits = bits; mode = mode; start = start; ops = ops }

-- the state of the start chains
abbrev pub opening_of : ProgramData → State
opening_of p = opening p.qubits p.bits p.start

-- the state before operation k, and the state at the end
abbrev pub before : ProgramData → ℕ → State
before p k = after p.machine (opening_of p) (take k p.ops)

abbrev pub end_of : ProgramData → State
end_of p = after p.machine (opening_of p) p.ops
