use Rattle.std.proofs.Common.{◌≡◌, ◌∷◌, [], flat_map}
use Rattle.std.specs.List.{range_with_len}
use Rattle.qasm_reader.specs.Known.{with_items}
use Rattle.qasm_reader.specs.Operand.{cell_of, reset_item}
use Rattle.qasm_reader.specs.Code.{known}
use Rattle.qasm_reader.proofs.statements.add_resets.Given as goal

-- the items so far were added
abbrev pub invariant-loop-turn : goal.invariant-loop-turn
invariant-loop-turn l = known l.state ≡ with_items (known l.fn.state) (flat_map (λ i. reset_item (cell_of i l.on) ∷ []) (range_with_len 0 l.turn))
