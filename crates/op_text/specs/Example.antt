-- Items that the worked examples speak of.
use Rattle.std.specs.Prelude.{ℕ, [], ◌∷◌, Some, codes}
use Rattle.qccd_base.specs.Names.{bit}
use Rattle.qccd_circuit.specs.Example.{h_on}
use Rattle.qccd_circuit.specs.Item.{ItemData}

-- a gate with three angles on a qubit
abbrev pub turned : ℕ → ItemData
turned q = record (h_on q) { name = codes "u3"; angles = codes "pi/2" ∷ codes "0" ∷ codes "-pi" ∷ [] }

-- an item under the condition that so many bits from the first have a value
abbrev pub under : ItemData → ℕ → ℕ → ℕ → ItemData
under item first count value = record item { cond = Some (record { first = bit first; count = count; value = value }) }
