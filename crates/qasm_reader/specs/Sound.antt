-- What is true of what statements have made known, and of their operands and angles.
use Rattle.std.specs.Prelude.{◌≡◌, ℕ, ◌+◌, ◌<◌, ◌≤◌, true, false, List, [], ◌∷◌, Some}
use Rattle.std.specs.List.{list_any}
use Rattle.qccd_circuit.specs.Circuit.{IsCircuit}
use Rattle.qccd_circuit.specs.Item.{IsName, IsGateName}
use Rattle.qasm_reader.specs.declared.kinds.Register.{Register}
use Rattle.qasm_reader.specs.declared.kinds.Operand.{Operand}
use Rattle.gate_defs.specs.Gates.{Gate}
use Rattle.qasm_reader.specs.Known.{Known, circuit_of, count_of}
use Rattle.qasm_reader.specs.Operand.{cell_count, differ, first_cell, is_whole, share}

-- the register has a cell, and all its cells are among those that there are
pub record IsRegisterOf (qubits bits : ℕ) (r : Register) : Type 0 where
  pub some : 1 ≤ r.size
  pub below : r.first + r.size ≤ count_of r.kind qubits bits

-- the operand has a cell, and all its cells are among the first n
pub record LiesBelow (n : ℕ) (o : Operand) : Type 0 where
  pub some : 1 ≤ cell_count o
  pub below : first_cell o + cell_count o ≤ n

-- no two operands share a cell, and no two are registers of different sizes
abbrev pub AreApart : List Operand → Type 0
AreApart [] = Unit {0}
AreApart (o ∷ os) = (list_any (λ p. share p o) os ≡ false) × (list_any (λ p. differ p o) os ≡ false) × AreApart os

-- where the operand is a register, it has a cell of this number
abbrev pub HasCell : ℕ → Operand → Type 0
HasCell i o = is_whole o ≡ true → i < o.register.size

-- the gate's name can be that of an item, and it takes no more angles than an item can have
pub record IsGateOfItems (g : Gate) : Type 0 where
  pub name : IsName g.name
  pub gate_name : IsGateName g.name
  pub few : g.angles ≤ 16

-- what is known is a circuit, on whose qubits and bits the registers are
pub record IsSound (k : Known) : Type 0 where
  pub circuit : IsCircuit (circuit_of k)
  pub registers : (name : List ℕ) (r : Register) → k.registers name ≡ Some r → IsRegisterOf k.qubits k.bits r
