-- Operands, and the items of a statement on them.
use Rattle.std.specs.Prelude.{ℕ, ◌+◌, ◌==◌, nat_lt, Bool, ◌&&◌, not, if◌then◌else◌, List, [], ◌∷◌, ◌++◌, map, flat_map, None, Some, is_none, codes}
use Rattle.std.specs.List.{list_any, range_with_len}
use Rattle.qccd_base.specs.Names.{qubit, bit}
use Rattle.qccd_circuit.specs.declared.kinds.ItemKind.TheVariants.{Measure, Reset, Barrier}
use Rattle.qccd_circuit.specs.Item.{ItemData}
use Rattle.qasm_reader.specs.declared.kinds.Cell.{Cell}
use Rattle.qasm_reader.specs.declared.kinds.Operand.{Operand}
use Rattle.gate_defs.specs.Gates.{Gate}
use Rattle.qasm_reader.specs.Gates.{applied}

abbrev pub is_whole : Operand → Bool
is_whole o = is_none o.index

-- a cell as an operand
abbrev pub cell_operand : Cell → Operand
cell_operand c = record { register = c.register; index = Some c.index }

-- its cells, as numbers of qubits or bits
abbrev pub cells : Operand → List ℕ
cells o = elim o.index as (λ _. List ℕ) [ None ↦ range_with_len o.register.first o.register.size | Some i ↦ (o.register.first + i) ∷ [] ]

-- the one that an application takes: the i-th of a whole register, and else the one cell
abbrev pub cell_of : ℕ → Operand → ℕ
cell_of i o = elim o.index as (λ _. ℕ) [ None ↦ o.register.first + i | Some j ↦ o.register.first + j ]

-- its first cell, and how many it has
abbrev pub first_cell : Operand → ℕ
first_cell o = elim o.index as (λ _. ℕ) [ None ↦ o.register.first | Some i ↦ o.register.first + i ]

abbrev pub cell_count : Operand → ℕ
cell_count o = elim o.index as (λ _. ℕ) [ None ↦ o.register.size | Some i ↦ 1 ]

-- whether two operands share a cell: each begins before the other ends
abbrev pub share : Operand → Operand → Bool
share a b = nat_lt (first_cell a) (first_cell b + cell_count b) && nat_lt (first_cell b) (first_cell a + cell_count a)

-- both are whole registers, and of other sizes
abbrev pub differ : Operand → Operand → Bool
differ a b = is_whole a && (is_whole b && not (a.register.size == b.register.size))

-- both are cells, or both are whole registers of one size
abbrev pub alike : Operand → Operand → Bool
alike a b = if is_whole a then is_whole b && (a.register.size == b.register.size) else not (is_whole b)

-- how many applications there are
abbrev pub times : List Operand → ℕ
times [] = 1
times (o ∷ os) = if is_whole o then o.register.size else times os

-- the items of a gate on operands
abbrev pub gate_items : Gate → List (List ℕ) → List Operand → List ItemData
gate_items g angles os = flat_map (λ i. applied g angles (map (cell_of i) os)) (range_with_len 0 (times os))

-- the items of a measurement
abbrev pub measure_item : ℕ → ℕ → ItemData
measure_item q b = record { kind = Measure; name = codes "measure"; angles = []; qubits = qubit q ∷ []; bits = bit b ∷ []; cond = None }

abbrev pub measure_items : Operand → Operand → List ItemData
measure_items a b = map (λ i. measure_item (cell_of i a) (cell_of i b)) (range_with_len 0 (times (a ∷ [])))

abbrev pub reset_item : ℕ → ItemData
reset_item q = record { kind = Reset; name = codes "reset"; angles = []; qubits = qubit q ∷ []; bits = []; cond = None }

abbrev pub reset_items : Operand → List ItemData
reset_items a = map (λ i. reset_item (cell_of i a)) (range_with_len 0 (times (a ∷ [])))

-- the numbers, and behind them this one, unless it stands there already
abbrev pub with_mention : List ℕ → ℕ → List ℕ
with_mention found n = if list_any (λ m. m == n) found then found else found ++ n ∷ []

-- the same for one number after another
abbrev pub with_mentions : List ℕ → List ℕ → List ℕ
with_mentions found [] = found
with_mentions found (n ∷ ns) = with_mentions (with_mention found n) ns

-- a barrier over these qubits
abbrev pub barrier_of : List ℕ → ItemData
barrier_of ns = record { kind = Barrier; name = codes "barrier"; angles = []; qubits = map qubit ns; bits = []; cond = None }

-- the one item of a barrier: over the cells in order of first mention
abbrev pub barrier_items : List Operand → List ItemData
barrier_items os = barrier_of (with_mentions [] (flat_map cells os)) ∷ []
