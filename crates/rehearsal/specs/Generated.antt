-- The circuit that is drawn from a number.
use Rattle.std.specs.Prelude.{ℕ, zero, suc, ◌+◌, ◌-◌, ◌||◌, ◌==◌, nat_le, if◌then◌else◌, List, [], ◌∷◌, None, codes}
use Rattle.qccd_base.specs.Names.{qubit}
use Rattle.qccd_base.specs.declared.names.Qubit.{Qubit}
use Rattle.qccd_circuit.specs.declared.kinds.ItemKind.{ItemKind}
use Rattle.qccd_circuit.specs.declared.kinds.ItemKind.TheVariants.{Gate1, Gate2}
use Rattle.qccd_circuit.specs.Item.{ItemData}
use Rattle.qccd_circuit.specs.Circuit.{CircuitData}
use Rattle.rehearsal.specs.Draws.{draw, next}

-- a gate of this name with no angle
abbrev pub plain_gate : ItemKind → List ℕ → List Qubit → ItemData
plain_gate kind name qubits = record { kind = kind; name = name; angles = []; qubits = qubits; bits = []; cond = None }

-- an item that was drawn, and the number from which the next draw goes on
pub record Drawn : Type 0 where
  pub item : ItemData
  pub after : ℕ

-- a number below one less than there are qubits, taken for a qubit other than a
abbrev pub other_than : ℕ → ℕ → ℕ
other_than a n = if nat_le a n then n + 1 else n

-- the gate of a kind, where qubit a is drawn and the draws have come to x: 0 is h, 1 is x, and 2 is cx on a and
-- another qubit, which is drawn; where there is one qubit alone, 2 is x, too, and no more is drawn
abbrev pub drawn_gate : (qubits kind a x : ℕ) → Drawn
drawn_gate qubits kind a x =
    if kind == 0 then record { item = plain_gate Gate1 (codes "h") (qubit a ∷ []); after = x }
    else if (kind == 1) || (qubits == 1) then record { item = plain_gate Gate1 (codes "x") (qubit a ∷ []); after = x }
    else record { item = plain_gate Gate2 (codes "cx") (qubit a ∷ qubit (other_than a (draw (qubits - 1) x)) ∷ []); after = next x }

-- the item that is drawn from x on: first its kind, then its qubits
abbrev pub drawn_item : (qubits x : ℕ) → Drawn
drawn_item qubits x = drawn_gate qubits (draw 3 x) (draw qubits (next x)) (next (next x))

-- so many items, each drawn from where the one before has ended
abbrev pub drawn_items : (qubits x items : ℕ) → List ItemData
drawn_items qubits x zero = []
drawn_items qubits x (suc items) = (drawn_item qubits x).item ∷ drawn_items qubits (drawn_item qubits x).after items

-- the circuit of so many qubits and items, with no bits, that is drawn from a number
abbrev pub generated : (number qubits items : ℕ) → CircuitData
generated number qubits items = record { qubits = qubits; bits = 0; items = drawn_items qubits number items }
