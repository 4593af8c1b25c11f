-- The items of gates that no definition expands.
use Rattle.std.specs.Prelude.{ℕ, List, [], ◌∷◌, ◌++◌, Option, None, codes}
use Rattle.qccd_base.specs.declared.names.Qubit.{Qubit}
use Rattle.qccd_circuit.specs.declared.kinds.Cond.{Cond}
use Rattle.qccd_circuit.specs.declared.kinds.ItemKind.{ItemKind}
use Rattle.qccd_circuit.specs.declared.kinds.ItemKind.TheVariants.{Gate1, Gate2}
use Rattle.qccd_circuit.specs.declared.kinds.ItemKind.TheVariants as kind
use Rattle.qccd_circuit.specs.Item.{ItemData}

-- an item with no bits of its own
abbrev pub gate_item : ItemKind → List ℕ → List (List ℕ) → List Qubit → Option Cond → ItemData
gate_item of name angles on cond = record { kind = of; name = name; angles = angles; qubits = on; bits = []; cond = cond }

-- a gate without angles on one qubit
abbrev pub one : List ℕ → Qubit → Option Cond → ItemData
one name a cond = gate_item Gate1 name [] (a ∷ []) cond

abbrev pub cx : Qubit → Qubit → Option Cond → ItemData
cx a b cond = gate_item Gate2 (codes "cx") [] (a ∷ b ∷ []) cond

-- the items of ccx on a, b and c
abbrev pub ccx_items : Qubit → Qubit → Qubit → Option Cond → List ItemData
ccx_items a b c d =
    one (codes "h") c d ∷ cx b c d ∷ one (codes "tdg") c d ∷ cx a c d ∷ one (codes "t") c d ∷ cx b c d ∷ one (codes "tdg") c d ∷ cx a c d
    ∷ one (codes "t") b d ∷ one (codes "t") c d ∷ one (codes "h") c d ∷ cx a b d ∷ one (codes "t") a d ∷ one (codes "tdg") b d ∷ cx a b d ∷ []

-- and those of cswap
abbrev pub cswap_items : Qubit → Qubit → Qubit → Option Cond → List ItemData
cswap_items a b c d = cx c b d ∷ (ccx_items a b c d ++ cx c b d ∷ [])

-- the items of a gate on three qubits
abbrev pub on_three : (Qubit → Qubit → Qubit → Option Cond → List ItemData) → List Qubit → Option Cond → List ItemData
on_three items [] cond = []
on_three items (a ∷ []) cond = []
on_three items (a ∷ b ∷ []) cond = []
on_three items (a ∷ b ∷ c ∷ []) cond = items a b c cond
on_three items (a ∷ b ∷ c ∷ d ∷ qs) cond = []

-- what a gate that is one item is on these qubits
abbrev pub kind_on : List Qubit → ItemKind
kind_on [] = Gate1
kind_on (a ∷ []) = Gate1
kind_on (a ∷ b ∷ qs) = Gate2

-- its item
abbrev pub gate_on : List ℕ → List (List ℕ) → List Qubit → Option Cond → ItemData
gate_on name angles on cond = gate_item (kind_on on) name angles on cond

-- a barrier, which has no condition
abbrev pub barrier_on : List Qubit → ItemData
barrier_on on = gate_item kind.Barrier (codes "barrier") [] on None
