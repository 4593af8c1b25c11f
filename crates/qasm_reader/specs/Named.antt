-- The names that code keeps.
use Rattle.std.specs.Prelude.{ℕ, List, Option, None, Some, if◌then◌else◌}
use Rattle.std.specs.Str.{bytes_eq}
use Rattle.std.specs.Borrow.{Bor}
use Rattle.std.specs.BTreeMap.{get_by}
use Rattle.std.specs.Cmp.Lexicographic.{slice_cmp}
use Rattle.std.specs.Ordering.{nat_cmp}
use Rattle.qasm_reader.specs.declared.gates.KnownGate.{KnownGate}
use Rattle.qasm_reader.specs.declared.kinds.Register.{Register}
use Rattle.qasm_reader.specs.declared.names.Names.{Names}
use Rattle.gate_defs.specs.Gates.{Gate}

-- the register that a name stands for: that of the first name, or of one in the map
abbrev pub stands_for : Names → List ℕ → Option Register
stands_for names name = elim names.first as (λ _. Option Register) [
  | None ↦ get_by (λ key. slice_cmp nat_cmp name key.items) names.map
  | Some f ↦ if bytes_eq name f.name.items then Some f.register else get_by (λ key. slice_cmp nat_cmp name key.items) names.map
]

-- the gate
abbrev pub shape : KnownGate → Gate
shape g = record { name = g.name.now; angles = g.angles; qubits = g.qubits }

-- the gate of a row of name, angles and qubits
abbrev pub row_gate : Bor (List ℕ) × ℕ × ℕ → Gate
row_gate row = record { name = row.0.now; angles = row.1; qubits = row.2 }
