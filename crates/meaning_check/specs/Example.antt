-- A circuit of four gates on two qubits, and programs in one trap, as worked examples.
use Rattle.std.specs.Prelude.{ℕ, List, [], ◌∷◌, None, map}
use Rattle.qccd_base.specs.Names.{ion, trap}
use Rattle.qccd_circuit.specs.Circuit.{CircuitData}
use Rattle.qccd_circuit.specs.Item.{ItemData}
use Rattle.qccd_circuit.specs.Example.{h_on, cx_on}
use Rattle.qccd_machine.specs.Preset.{single}
use Rattle.op_table.specs.declared.kinds.OpKind.{OpKind}
use Rattle.op_table.specs.declared.kinds.OpKind.TheVariants.{Item}
use Rattle.qccd_program.specs.Program.{ProgramData}

-- a gate on each qubit, one on both, and one more on the first
abbrev pub four_gates : CircuitData
four_gates = record { qubits = 2; bits = 0; items = h_on 0 ∷ h_on 1 ∷ cx_on 0 1 ∷ h_on 0 ∷ [] }

-- the same with a qubit more
abbrev pub on_three : CircuitData
on_three = record four_gates { qubits = 3 }

-- the item with this number, in a trap in which each qubit stands at its own number
abbrev pub at : ℕ → ItemData → OpKind
at number item = Item number (trap 0) item (map (λ q. q.0) item.qubits)

-- a program of two qubits in one trap
abbrev pub in_one_trap : List OpKind → ProgramData
in_one_trap ops = record { machine = single 4; qubits = 2; bits = 0; mode = None; start = (ion 0 ∷ ion 1 ∷ []) ∷ []; ops = ops }

-- the gates on one qubit change places before the gate on both
abbrev pub in_order : List OpKind
in_order = at 1 (h_on 1) ∷ at 0 (h_on 0) ∷ at 2 (cx_on 0 1) ∷ at 3 (h_on 0) ∷ []

-- the last gate, which shares with items 2 and 0, stands first, and the gate on both before those that it follows
abbrev pub out_of_order : List OpKind
out_of_order = at 3 (h_on 0) ∷ at 2 (cx_on 0 1) ∷ at 0 (h_on 0) ∷ at 1 (h_on 1) ∷ []

-- items 1 and 3 are missing, and 2 stands before 0
abbrev pub two_missing : List OpKind
two_missing = at 2 (cx_on 0 1) ∷ at 0 (h_on 0) ∷ []

-- the circuit has no item 9, its item 1 is on the other qubit, and others are missing
abbrev pub two_others : List OpKind
two_others = at 0 (h_on 0) ∷ at 9 (h_on 0) ∷ at 1 (h_on 0) ∷ []

-- item 1 is on the other qubit
abbrev pub other_qubit : List OpKind
other_qubit = at 1 (h_on 0) ∷ at 0 (h_on 0) ∷ at 2 (cx_on 0 1) ∷ at 3 (h_on 0) ∷ []
