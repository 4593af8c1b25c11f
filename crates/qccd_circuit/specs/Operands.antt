-- An item's operands, its qubits and its bits, by number.
use Rattle.std.specs.Prelude.{ℕ, ◌+◌, ◌*◌, Bool, ◌==◌, List, ◌++◌, map}
use Rattle.std.specs.List.{list_any}
use Rattle.qccd_circuit.specs.Item.{ItemData, bits_of}

-- a qubit has an even number and a bit an odd one, so that a table has a row for each of both
abbrev pub operands_of : ItemData → List ℕ
operands_of d = map (λ q. 2 * q.0) d.qubits ++ map (λ b. 2 * b.0 + 1) (bits_of d)

-- whether the operand is one of the item's
abbrev pub uses : ItemData → ℕ → Bool
uses d o = list_any (λ n. n == o) (operands_of d)
