-- Where the qubits stand at the start.
use Rattle.std.specs.Prelude.{ℕ, ◌-◌, max, not, ◌==◌, nat_le, List, [], ◌∷◌, ◌++◌, map, filter, find, flat_map, take, drop, unwrap_or, sum}
use Rattle.std.specs.List.{range_with_len}
use Rattle.qccd_base.specs.Names.{ion}
use Rattle.qccd_base.specs.declared.names.Ion.{Ion}
use Rattle.qccd_circuit.specs.Circuit.{CircuitData}
use Rattle.qccd_circuit.specs.Item.{ItemData}
use Rattle.qccd_machine.specs.Machine.{MachineData}

-- each number once, where it comes first
abbrev pub firsts : List ℕ → List ℕ
firsts [] = []
firsts (k ∷ ks) = k ∷ filter (λ n. not (n == k)) (firsts ks)

-- the qubits that the items name, operands in their order
abbrev pub uses : List ItemData → List ℕ
uses items = flat_map (λ item. map (λ q. q.0) item.qubits) items

-- the qubits in the order of their first use, then the unused ones by number
abbrev pub by_use : CircuitData → List ℕ
by_use c = firsts (uses c.items ++ range_with_len 0 c.qubits)

-- how many ions each trap is filled with where so many places are spared in each
abbrev pub fills : MachineData → ℕ → List ℕ
fills m spare = map (λ capacity. max (capacity - spare) 1) m.capacities

-- how many places are spared in each trap: the most of 2, 1 and 0 with which so many qubits have a place
abbrev pub spared : MachineData → ℕ → ℕ
spared m qubits = unwrap_or (find (λ spare. nat_le qubits (sum (fills m spare))) (2 ∷ 1 ∷ 0 ∷ [])) 0

-- the traps are filled in the order of their numbers, each with so many
abbrev pub filled : List ℕ → List Ion → List (List Ion)
filled [] ions = []
filled (n ∷ ns) ions = take n ions ∷ filled ns (drop n ions)

-- the chain of each trap at the start. Ion i carries qubit i
unfoldable pub chains_at_start : CircuitData → MachineData → List (List Ion)
chains_at_start c m = filled (fills m (spared m c.qubits)) (map ion (by_use c))
