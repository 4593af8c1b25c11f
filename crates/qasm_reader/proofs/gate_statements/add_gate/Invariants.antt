use Rattle.std.proofs.Common.{◌≡◌, map, flat_map}
use Rattle.std.specs.List.{range_with_len}
use Rattle.qasm_reader.specs.Gates.{applied}
use Rattle.qasm_reader.specs.Known.{with_items}
use Rattle.qasm_reader.specs.Named.{shape}
use Rattle.qasm_reader.specs.Operand.{cell_of}
use Rattle.qasm_reader.specs.Code.{known}
use Rattle.qasm_reader.proofs.gate_statements.add_gate.Given as goal

-- the items of the applications so far were added
abbrev pub invariant-loop-turn : goal.invariant-loop-turn
invariant-loop-turn l =
    known l.state ≡ with_items (known l.fn.state) (flat_map (λ i. applied (shape l.gate) l.angles (map (cell_of i) l.operands)) (range_with_len 0 l.turn))
