-- A state with ions outside the traps, as a worked example.
use Rattle.std.specs.Prelude.{[], ◌∷◌}
use Rattle.qccd_base.specs.Names.{qubit}
use Rattle.qccd_base.specs.declared.names.SegEnd.TheVariants.{A, B}
use Rattle.op_table.specs.State.{InTrap, OnSegment, InJunction, State}

-- ion 0 in junction 2, ions 1 and 2 on segments 13 and 0, and ion 3 in trap 0, with qubits of other
-- numbers
abbrev pub scattered : State
scattered = record {
  bits = 0;
  ions =
      record { place = InJunction 2 250; qubit = qubit 1 }
      ∷ record { place = OnSegment 13 A 233; qubit = qubit 3 }
      ∷ record { place = OnSegment 0 B 100; qubit = qubit 0 }
      ∷ record { place = InTrap 0 0; qubit = qubit 2 }
      ∷ [];
  heats = 400 ∷ [];
}
