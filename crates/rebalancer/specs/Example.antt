-- Machines and states of worked examples.
use Rattle.std.specs.Prelude.{ℕ, ◌+◌, List, [], ◌∷◌}
use Rattle.qccd_base.specs.Names.{ion, qubit, trap, segment}
use Rattle.qccd_base.specs.declared.names.Ion.{Ion}
use Rattle.qccd_base.specs.declared.names.Qubit.{Qubit}
use Rattle.qccd_base.specs.declared.names.End.TheVariants.{Left, Right}
use Rattle.qccd_machine.specs.declared.place.Preset.TheVariants.{L6, G2x3}
use Rattle.qccd_machine.specs.Machine.{MachineData}
use Rattle.qccd_machine.specs.Preset.{preset_of}
use Rattle.op_table.specs.declared.kinds.OpKind.{OpKind}
use Rattle.op_table.specs.declared.kinds.OpKind.TheVariants.{Split, Move, Merge}
use Rattle.op_table.specs.State.{State, opening}

-- six traps in a line, and two rows of three
abbrev pub six_of_two : MachineData
six_of_two = preset_of L6 2

abbrev pub six_of_five : MachineData
six_of_five = preset_of L6 5

abbrev pub grid_of_four : MachineData
grid_of_four = preset_of G2x3 4

-- qubits a and a + 1
abbrev pub two_from : ℕ → List Ion
two_from a = ion a ∷ ion (a + 1) ∷ []

-- eleven qubits, two in each trap but the last
abbrev pub eleven : State
eleven = opening 11 0 (two_from 0 ∷ two_from 2 ∷ two_from 4 ∷ two_from 6 ∷ two_from 8 ∷ (ion 10 ∷ []) ∷ [])

-- qubits 0, 1 and 2 in the first trap and qubit 3 in the second
abbrev pub four : State
four = opening 4 0 ((ion 0 ∷ ion 1 ∷ ion 2 ∷ []) ∷ (ion 3 ∷ []) ∷ [] ∷ [] ∷ [] ∷ [] ∷ [])

-- the last qubit of trap t of a line goes to the next trap
abbrev pub on_from : ℕ → List OpKind
on_from t = Split (trap t) Right (segment t) ∷ Move (segment t) ∷ Merge (segment t) (trap (t + 1)) Left ∷ []

abbrev pub the_two : ℕ → ℕ → Qubit × Qubit
the_two a b = (qubit a, qubit b)
