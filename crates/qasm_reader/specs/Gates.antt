-- The items of one application of a gate that is known by name.
use Rattle.std.specs.Prelude.{ℕ, if◌then◌else◌, List, [], ◌∷◌, map, None, codes}
use Rattle.std.specs.Str.{bytes_eq}
use Rattle.qccd_base.specs.Names.{qubit}
use Rattle.qccd_circuit.specs.declared.kinds.ItemKind.{ItemKind}
use Rattle.qccd_circuit.specs.declared.kinds.ItemKind.TheVariants.{Gate1, Gate2}
use Rattle.qccd_circuit.specs.Item.{ItemData}
use Rattle.gate_defs.specs.Gates.{Gate}
use Rattle.gate_defs.specs.Items.{ccx_items, cswap_items}
use Rattle.gate_defs.specs.Items as items

-- a gate on the qubits of these numbers
abbrev pub gate_item : ItemKind → List ℕ → List (List ℕ) → List ℕ → ItemData
gate_item kind name angles on = items.gate_item kind name angles (map qubit on) None

abbrev pub on_three : List ℕ → List ℕ → List ItemData
on_three name (a ∷ b ∷ c ∷ []) =
    if bytes_eq name (codes "ccx") then ccx_items (qubit a) (qubit b) (qubit c) None else cswap_items (qubit a) (qubit b) (qubit c) None
on_three name _ = []

-- the items of one application of the gate
abbrev pub applied : Gate → List (List ℕ) → List ℕ → List ItemData
applied g angles (a ∷ []) = gate_item Gate1 g.name angles (a ∷ []) ∷ []
applied g angles (a ∷ b ∷ []) = gate_item Gate2 g.name angles (a ∷ b ∷ []) ∷ []
applied g angles on = on_three g.name on
