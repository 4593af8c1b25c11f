use Rattle.std.proofs.Common.{ℕ, ◌*◌, sym, ap, ◌∙◌}
use Rattle.qasm_reader.specs.Named.{shape}
use Rattle.qasm_reader.proofs.Ends.{length_gate}
use Rattle.qasm_reader.proofs.gate_statements.count_items.Goals as goal

pub returns : goal.returns
returns c = λ angles.
    length_gate (shape c.args.gate.now) angles c.args.operands.now c.items_of_each.result (c.items_of_each.ensures.value angles)
    ∙ ap (λ (n : ℕ). n * c.items_of_each.result) (sym (c.from.ensures ∙ c.turns.ensures))
