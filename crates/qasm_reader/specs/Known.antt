-- What the statements so far have made known.
use Rattle.std.specs.Prelude.{ℕ, ◌+◌, Bool, true, false, List, [], ◌++◌, Option, None, Some, is_some, if◌then◌else◌}
use Rattle.std.specs.Str.{bytes_eq}
use Rattle.qccd_circuit.specs.Item.{ItemData}
use Rattle.qccd_circuit.specs.Circuit.{CircuitData}
use Rattle.qasm_reader.specs.declared.kinds.Register.{Register}
use Rattle.qasm_reader.specs.declared.kinds.RegisterKind.{RegisterKind}
use Rattle.qasm_reader.specs.declared.kinds.RegisterKind.TheVariants.{Quantum, Classical}

-- whether the include was read, how many qubits and bits there are, the register of each name that has one, and the items
pub record Known : Type 0 where
  pub included : Bool
  pub qubits : ℕ
  pub bits : ℕ
  pub registers : List ℕ → Option Register
  pub items : List ItemData

abbrev pub nothing : Known
nothing = record { included = false; qubits = 0; bits = 0; registers = λ _. None; items = [] }

abbrev pub is_declared : Known → List ℕ → Bool
is_declared k name = is_some (k.registers name)

-- of so many qubits and bits, those of the kind
abbrev pub count_of : RegisterKind → ℕ → ℕ → ℕ
count_of Quantum qubits bits = qubits
count_of Classical qubits bits = bits

-- after the include
abbrev pub with_include : Known → Known
with_include k = record k { included = true }

-- names with one more, which stands for the register
abbrev pub with_name : List ℕ → Register → (List ℕ → Option Register) → List ℕ → Option Register
with_name name r registers other = if bytes_eq other name then Some r else registers other

-- with one register more
abbrev pub with_register : Known → RegisterKind → List ℕ → ℕ → Known
with_register k Quantum name size =
    record k { qubits = k.qubits + size; registers = with_name name (record { kind = Quantum; first = k.qubits; size = size }) k.registers }
with_register k Classical name size =
    record k { bits = k.bits + size; registers = with_name name (record { kind = Classical; first = k.bits; size = size }) k.registers }

-- with these items behind the others
abbrev pub with_items : Known → List ItemData → Known
with_items k items = record k { items = k.items ++ items }

abbrev pub circuit_of : Known → CircuitData
circuit_of k = record { qubits = k.qubits; bits = k.bits; items = k.items }
