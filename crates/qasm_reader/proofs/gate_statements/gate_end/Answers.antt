-- What the `;` behind the operands leads to.
use Rattle.std.proofs.Common.{ℕ, ◌+◌, false, length, sym, ap, subst, ◌∙◌, arith}
use Rattle.std.specs.Prelude.{nat_lt}
use Rattle.std.proofs.lemmas.Bool.{eq-eqb, ne_eqb}
use Rattle.qasm_reader.specs.Expected.{Role, of_gate}
use Rattle.qasm_reader.specs.Known.{Known}
use Rattle.qasm_reader.specs.Named.{shape}
use Rattle.qasm_reader.specs.Operand.{gate_items}
use Rattle.qasm_reader.specs.Sound.{IsSound}
use Rattle.qasm_reader.specs.Expected.{between}
use Rattle.qasm_reader.specs.Code.{Tells, answer_from, known, seen}
use Rattle.qasm_reader.proofs.Ends.{list_count, list_done, list_many}
use Rattle.qasm_reader.proofs.Fitting.{good_gate}
use Rattle.qasm_reader.proofs.Leading.{leads_exit}
use Rattle.qasm_reader.proofs.Rule.{with_items_sound}
use Rattle.qasm_reader.proofs.gate_statements.gate_end.Goals as goal

pub returns-in_err-end-clause-leads : goal.returns-in_err-end-clause-leads
returns-in_err-end-clause-leads c =
    let role : Role = of_gate (record { gate = shape c.args.gate.now; angles = c.args.angles.now; missing = false; operands = c.args.operands.now }) in
    leads_exit _ _ _ _ c.from_residual.ensures.1 (c.in_err-end.ensures.behind_list (known c.args.state.now) role c.requires.end)

pub returns-then-operands-from-clause-leads : goal.returns-then-operands-from-clause-leads
returns-then-operands-from-clause-leads c =
    let role : Role = of_gate (record { gate = shape c.args.gate.now; angles = c.args.angles.now; missing = false; operands = c.args.operands.now }) in
    let e = c.in_ok-end in
    subst (Tells _) (sym c.refused.ensures)
    (list_count (known c.args.state.now) role c.args.cursor.now e.rest (seen e.end)
    (record { found = e.ensures.found; same = e.ensures.same; is_semicolon = e.ensures.is_semicolon })
    (ne_eqb _ _ (λ same. c.if-operands-from.true (omega (arith, same, c.from.ensures)))))

pub returns-then-too_many-clause-leads : goal.returns-then-too_many-clause-leads
returns-then-too_many-clause-leads c =
    let k = known c.args.state.now in
    let role : Role = of_gate (record { gate = shape c.args.gate.now; angles = c.args.angles.now; missing = false; operands = c.args.operands.now }) in
    let e = c.in_ok-end in
    subst (Tells _) (sym c.too_many_items.ensures)
    (list_many k role c.args.cursor.now e.rest (seen e.end)
    (record { found = e.ensures.found; same = e.ensures.same; is_semicolon = e.ensures.is_semicolon })
    (eq-eqb _ _ (omega (arith, c.if-operands-from.false, c.from.ensures)))
    (ap (λ (n : ℕ). nat_lt 65536 (length k.items + n)) (c.count_items.ensures c.args.angles.now) ∙ sym c.too_many.ensures ∙ c.if-too_many.true))

pub returns-clause-sound : goal.returns-clause-sound
returns-clause-sound c =
    let k = known c.args.state.now in
    let r = c.requires in
    subst IsSound (sym c.in_ok-add_gate.ensures)
    (with_items_sound k (gate_items (shape c.args.gate.now) c.args.angles.now c.args.operands.now) r.sound
    (good_gate k.qubits k.bits (shape c.args.gate.now) c.args.angles.now c.args.operands.now r.is_gate r.are_angles r.apart r.below)
    (ap (λ (n : ℕ). nat_lt 65536 (length k.items + n)) (c.count_items.ensures c.args.angles.now) ∙ sym c.too_many.ensures ∙ c.if-too_many.false))

pub returns-clause-leads : goal.returns-clause-leads
returns-clause-leads c =
    let k = known c.args.state.now in
    let role : Role = of_gate (record { gate = shape c.args.gate.now; angles = c.args.angles.now; missing = false; operands = c.args.operands.now }) in
    let e = c.in_ok-end in
    list_done k role c.args.cursor.now e.rest (seen e.end)
    (record { found = e.ensures.found; same = e.ensures.same; is_semicolon = e.ensures.is_semicolon })
    (eq-eqb _ _ (omega (arith, c.if-operands-from.false, c.from.ensures)))
    (ap (λ (n : ℕ). nat_lt 65536 (length k.items + n)) (c.count_items.ensures c.args.angles.now) ∙ sym c.too_many.ensures ∙ c.if-too_many.false)
    ∙ ap (λ (j : Known). answer_from j between e.rest) (sym c.in_ok-add_gate.ensures)
