-- Circuits of worked examples.
use Rattle.std.specs.Prelude.{ℕ, List, [], ◌∷◌, ◌++◌, map, None, codes}
use Rattle.std.specs.List.{range_with_len}
use Rattle.qccd_base.specs.Names.{ion, qubit}
use Rattle.qccd_base.specs.declared.names.Ion.{Ion}
use Rattle.qccd_circuit.specs.Circuit.{CircuitData}
use Rattle.qccd_circuit.specs.Item.{ItemData}
use Rattle.qccd_circuit.specs.declared.kinds.ItemKind.{ItemKind}
use Rattle.qccd_circuit.specs.declared.kinds.ItemKind.TheVariants.{Gate1, Gate2}

-- an item of this kind on these qubits
abbrev pub item_on : ItemKind → List ℕ → List ℕ → ItemData
item_on kind name qubits = record { kind = kind; name = name; angles = []; qubits = map qubit qubits; bits = []; cond = None }

abbrev pub x_on : ℕ → ItemData
x_on a = item_on Gate1 (codes "x") (a ∷ [])

abbrev pub h_on : ℕ → ItemData
h_on a = item_on Gate1 (codes "h") (a ∷ [])

abbrev pub cx_on : ℕ → ℕ → ItemData
cx_on a b = item_on Gate2 (codes "cx") (a ∷ b ∷ [])

abbrev pub circuit_of : ℕ → List ItemData → CircuitData
circuit_of qubits items = record { qubits = qubits; bits = 0; items = items }

-- one gate on each of eleven qubits, and one on two of them
abbrev pub eleven : ℕ → CircuitData
eleven a = circuit_of 11 (map x_on (range_with_len 0 11) ++ cx_on a 10 ∷ [])

-- the first items of a doubly controlled not on three qubits
abbrev pub toffoli_begins : CircuitData
toffoli_begins = circuit_of 3 (h_on 2 ∷ cx_on 1 2 ∷ cx_on 0 2 ∷ [])

-- the ions of these numbers
abbrev pub ions : List ℕ → List Ion
ions numbers = map ion numbers
