-- When two items share: their order may then matter.
use Rattle.std.specs.Prelude.{Bool, ◌||◌, ◌==◌, List}
use Rattle.std.specs.List.{list_any}
use Rattle.qccd_base.specs.declared.names.Qubit.{Qubit}
use Rattle.qccd_base.specs.declared.names.Bit.{Bit}
use Rattle.qccd_circuit.specs.Item.{ItemData, has_qubit, bits_of}

-- whether some qubit stands in both lists
abbrev pub share_qubit : List Qubit → List Qubit → Bool
share_qubit a b = list_any (has_qubit b) a

-- whether the bit stands in the list
abbrev pub has_bit : List Bit → Bit → Bool
has_bit bits b = list_any (λ c. c.0 == b.0) bits

-- whether some bit stands in both lists
abbrev pub share_bit : List Bit → List Bit → Bool
share_bit a b = list_any (has_bit b) a

-- whether some qubit stands in both items, or some bit does, the bits of conditions included
abbrev pub shares : ItemData → ItemData → Bool
shares a b = share_qubit a.qubits b.qubits || share_bit (bits_of a) (bits_of b)
