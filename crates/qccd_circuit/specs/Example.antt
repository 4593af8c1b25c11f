-- Small items that the worked examples speak of.
use Rattle.std.specs.Prelude.{ℕ, List, [], ◌∷◌, None, Some, Option, codes}
use Rattle.qccd_base.specs.Names.{qubit, bit}
use Rattle.qccd_base.specs.declared.names.Qubit.{Qubit}
use Rattle.qccd_circuit.specs.declared.kinds.ItemKind.TheVariants.{Gate1, Gate2, Measure, Reset, Barrier}
use Rattle.qccd_circuit.specs.declared.kinds.Cond.{Cond}
use Rattle.qccd_circuit.specs.Item.{ItemData}

-- the gate h on a qubit
abbrev pub h_on : ℕ → ItemData
h_on q = record {
  kind = Gate1;
  name = codes "h";
  angles = [];
  qubits = qubit q ∷ [];
  bits = [];
  cond = None;
}

-- the gate cx on two
abbrev pub cx_on : ℕ → ℕ → ItemData
cx_on p q = record {
  kind = Gate2;
  name = codes "cx";
  angles = [];
  qubits = qubit p ∷ qubit q ∷ [];
  bits = [];
  cond = None;
}

-- a measurement of a qubit into a bit
abbrev pub measure_into : ℕ → ℕ → ItemData
measure_into q b = record {
  kind = Measure;
  name = codes "measure";
  angles = [];
  qubits = qubit q ∷ [];
  bits = bit b ∷ [];
  cond = None;
}

-- a reset of a qubit
abbrev pub reset_of : ℕ → ItemData
reset_of q = record {
  kind = Reset;
  name = codes "reset";
  angles = [];
  qubits = qubit q ∷ [];
  bits = [];
  cond = None;
}

-- a barrier over qubits
abbrev pub barrier_over : List Qubit → ItemData
barrier_over qubits = record {
  kind = Barrier;
  name = codes "barrier";
  angles = [];
  qubits = qubits;
  bits = [];
  cond = None;
}

-- the condition that so many bits from the first have the value 1
abbrev pub bits_are_one : ℕ → ℕ → Option Cond
bits_are_one first count = Some (record { first = bit first; count = count; value = 1 })

-- an h under such a condition
abbrev pub h_under : ℕ → ℕ → ℕ → ItemData
h_under q first count = record (h_on q) { cond = bits_are_one first count }

-- two gates on two qubits, and then one on both
abbrev pub three_gates : List ItemData
three_gates = h_on 0 ∷ h_on 1 ∷ cx_on 0 1 ∷ []

-- a measurement, a gate whose condition reads its bit, a barrier over that gate's qubit and another, a gate on
-- the other, and a gate that shares with none
abbrev pub five_items : List ItemData
five_items = measure_into 0 1 ∷ h_under 1 0 2 ∷ barrier_over (qubit 1 ∷ qubit 2 ∷ []) ∷ h_on 2 ∷ h_on 3 ∷ []
