-- The name is that of a known gate.
use Rattle.std.proofs.Common.{Bool, sym, ap, ◌∙◌}
use Rattle.std.specs.Prelude.{option_map}
use Rattle.qasm_reader.specs.Expected.{Next, between}
use Rattle.gate_defs.specs.Gates.{gate_of}
use Rattle.qasm_reader.specs.Named.{shape}
use Rattle.qasm_reader.specs.Code.{answer_behind, seen}
use Rattle.qasm_reader.proofs.Ends.{token_read}
use Rattle.qasm_reader.proofs.PlainGates.{gate_step}
use Rattle.qasm_reader.proofs.Rule.{gate_of_items}
use Rattle.qasm_reader.proofs.short.plain_gate.Goals as goal

pub returns-then-gate-eq0-clause-is_gate : goal.returns-then-gate-eq0-clause-is_gate
returns-then-gate-eq0-clause-is_gate c =
    gate_of_items c.args.included c.in_ok-piece.piece.bytes.now (shape c.in_ok-gate.gate) (sym c.gate_of.ensures ∙ ap (option_map shape) c.in_ok-gate.was)

pub returns-then-gate-eq0-clause-leads : goal.returns-then-gate-eq0-clause-leads
returns-then-gate-eq0-clause-leads c = λ k included.
    let p = c.in_ok-piece in
    let found = sym c.gate_of.ensures ∙ ap (option_map shape) c.in_ok-gate.was in
    token_read k between c.args.cursor.now p.rest (seen p.piece) p.ensures.some p.ensures.same
    ∙ ap (λ (n : Next). answer_behind n p.rest)
    (gate_step k (seen p.piece) (shape c.in_ok-gate.gate) p.ensures.kind (ap (λ (b : Bool). gate_of b p.piece.bytes.now) included ∙ found))
