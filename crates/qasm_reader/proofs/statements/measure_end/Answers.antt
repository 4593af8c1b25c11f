-- What the `;` leads to.
use Rattle.std.proofs.Common.{ℕ, ◌+◌, length, sym, ap, subst, ◌∙◌}
use Rattle.std.specs.Prelude.{nat_lt}
use Rattle.std.proofs.lemmas.List.FromFn.{length-map-range_with_len}
use Rattle.qasm_reader.specs.Expected.{between}
use Rattle.qasm_reader.specs.Known.{Known}
use Rattle.qasm_reader.specs.Operand.{measure_items}
use Rattle.qasm_reader.specs.Sound.{IsSound}
use Rattle.qasm_reader.specs.Code.{Tells, answer_from, known, seen}
use Rattle.qasm_reader.proofs.Ends.{items_done, items_many}
use Rattle.qasm_reader.proofs.Fitting.{good_measures}
use Rattle.qasm_reader.proofs.Leading.{leads_exit}
use Rattle.qasm_reader.proofs.Rule.{with_items_sound}
use Rattle.qasm_reader.proofs.statements.measure_end.Goals as goal

pub returns-in_err-end-clause-leads : goal.returns-in_err-end-clause-leads
returns-in_err-end-clause-leads c = leads_exit _ _ _ _ c.from_residual.ensures.1 (c.in_err-end.ensures.behind_items (known c.args.state.now) (measure_items c.args.left.now c.args.right.now))

pub returns-then-too_many-clause-leads : goal.returns-then-too_many-clause-leads
returns-then-too_many-clause-leads c =
    let k = known c.args.state.now in
    let e = c.in_ok-end in
    subst (Tells _) (sym c.too_many_items.ensures)
    (items_many k (measure_items c.args.left.now c.args.right.now) c.args.cursor.now e.rest (seen e.end)
    (record { found = e.ensures.found; same = e.ensures.same; is_semicolon = e.ensures.is_semicolon })
    (ap (λ (n : ℕ). nat_lt 65536 (length k.items + n)) (length-map-range_with_len _ 0 _ ∙ sym (c.from.ensures ∙ c.own_turns.ensures)) ∙ sym c.too_many.ensures ∙ c.if-too_many.true))

pub returns-clause-sound : goal.returns-clause-sound
returns-clause-sound c =
    let k = known c.args.state.now in
    subst IsSound (sym c.in_ok-add_measures.ensures)
    (with_items_sound k (measure_items c.args.left.now c.args.right.now) c.requires.sound (good_measures k.qubits k.bits c.args.left.now c.args.right.now c.requires.left_below c.requires.right_below c.requires.alike)
    (ap (λ (n : ℕ). nat_lt 65536 (length k.items + n)) (length-map-range_with_len _ 0 _ ∙ sym (c.from.ensures ∙ c.own_turns.ensures)) ∙ sym c.too_many.ensures ∙ c.if-too_many.false))

pub returns-clause-leads : goal.returns-clause-leads
returns-clause-leads c =
    let k = known c.args.state.now in
    let e = c.in_ok-end in
    items_done k (measure_items c.args.left.now c.args.right.now) c.args.cursor.now e.rest (seen e.end)
    (record { found = e.ensures.found; same = e.ensures.same; is_semicolon = e.ensures.is_semicolon })
    (ap (λ (n : ℕ). nat_lt 65536 (length k.items + n)) (length-map-range_with_len _ 0 _ ∙ sym (c.from.ensures ∙ c.own_turns.ensures)) ∙ sym c.too_many.ensures ∙ c.if-too_many.false)
    ∙ ap (λ (j : Known). answer_from j between e.rest) (sym c.in_ok-add_measures.ensures)
