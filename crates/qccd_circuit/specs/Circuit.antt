-- What a circuit is.
use Rattle.std.specs.Prelude.{ℕ, ◌<◌, ◌≤◌, List, length, All}
use Rattle.qccd_circuit.specs.Item.{ItemData, Fits, bits_of}

-- counts of qubits and of classical bits, and the items in their order
pub record CircuitData : Type 0 where
  pub qubits : ℕ
  pub bits : ℕ
  pub items : List ItemData

-- each qubit of the item, and each bit, also of its condition, is below its count
pub record IsWithin (qubits bits : ℕ) (d : ItemData) : Type 0 where
  pub qubits_below : All (λ q. q.0 < qubits) d.qubits
  pub bits_below : All (λ b. b.0 < bits) (bits_of d)

-- each item fits and keeps to the counts, and there are not too many of anything
pub record IsCircuit (c : CircuitData) : Type 0 where
  pub few_qubits : c.qubits ≤ 256
  pub few_bits : c.bits ≤ 256
  pub few_items : length c.items ≤ 65536
  pub fit : All Fits c.items
  pub within : All (IsWithin c.qubits c.bits) c.items
