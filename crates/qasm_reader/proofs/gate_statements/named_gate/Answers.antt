use Rattle.std.proofs.Common.{sym, ap, ◌∙◌}
use Rattle.std.specs.Prelude.{option_map}
use Rattle.qasm_reader.specs.Named.{shape}
use Rattle.qasm_reader.proofs.Rule.{gate_of_items}
use Rattle.qasm_reader.proofs.gate_statements.named_gate.Goals as goal

pub returns-in-Some-clause-is_gate : goal.returns-in-Some-clause-is_gate
returns-in-Some-clause-is_gate c =
    gate_of_items c.args.included c.args.piece.now.bytes.now (shape c.in-Some.gate) (sym c.gate_of.ensures ∙ ap (option_map shape) c.in-Some.is)
