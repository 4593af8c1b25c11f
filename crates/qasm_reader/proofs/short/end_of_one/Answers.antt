-- What the `;` leads to.
use Rattle.std.proofs.Common.{◌≡◌, ◌+◌, ◌-◌, ◌∷◌, [], None, false, length, refl, sym, ap, subst, ◌∙◌, arith}
use Rattle.std.specs.Prelude.{nat_lt}
use Rattle.std.proofs.lemmas.Bool.{eq-eqb}
use Rattle.std.proofs.lemmas.List.Elements.{All-cons, All-nil}
use Rattle.qccd_base.specs.declared.names.Qubit.{Qubit}
use Rattle.qccd_circuit.specs.declared.kinds.ItemKind.TheVariants.{Gate1}
use Rattle.qasm_lex.specs.declared.tokens.TokenKind.TheVariants as token
use Rattle.qasm_reader.specs.Expected.{between, call, of_gate, with_operand}
use Rattle.qasm_reader.specs.Known.{Known, with_items}
use Rattle.qasm_reader.specs.Named.{shape}
use Rattle.qasm_reader.specs.Operand.{cell_operand, gate_items}
use Rattle.qasm_reader.specs.Sound.{IsSound, LiesBelow}
use Rattle.qasm_reader.specs.Code.{answer_from, known}
use Rattle.qasm_reader.proofs.Ends.{list_done}
use Rattle.qasm_reader.proofs.Fitting.{good_gate, no_angles}
use Rattle.qasm_reader.proofs.Rule.{with_items_sound}
use Rattle.qasm_reader.proofs.short.end_of_one.Goals as goal
use Rattle.qasm_reader.proofs.short.end_of_one.Goals.{In_ok-add_item-in-Some}

-- there is room for the item
few : (c : In_ok-add_item-in-Some) → nat_lt 65536 (length (known c.args.state.now).items + 1) ≡ false
few c = sym c.too_many.ensures ∙ c.if-too_many.false

-- which is added
added :
    (c : In_ok-add_item-in-Some)
    → known c.add_item.new.state ≡ with_items (known c.args.state.now) (gate_items (shape c.args.gate.now) [] (cell_operand c.args.cell.now ∷ []))
added c =
    c.in_ok-add_item-in-Some.ensures
    ∙ ap (λ (q : Qubit). with_items (known c.args.state.now) (record { kind = Gate1; name = c.args.gate.now.name.now; angles = []; qubits = q ∷ []; bits = []; cond = None } ∷ []))
    c.qubit_of.ensures

pub returns-in_ok-add_item-in-Some-clause-sound : goal.returns-in_ok-add_item-in-Some-clause-sound
returns-in_ok-add_item-in-Some-clause-sound c =
    let k = known c.args.state.now in
    let o = cell_operand c.args.cell.now in
    let g = shape c.args.gate.now in
    subst IsSound (sym (added c))
    (with_items_sound k (gate_items g [] (o ∷ [])) c.requires.sound
    (good_gate k.qubits k.bits g [] (o ∷ []) c.requires.is_gate no_angles (refl, refl, tt)
    (All-cons (LiesBelow k.qubits) o [] c.requires.below (All-nil (LiesBelow k.qubits))))
    (few c))

pub returns-in_ok-add_item-in-Some-clause-leads : goal.returns-in_ok-add_item-in-Some-clause-leads
returns-in_ok-add_item-in-Some-clause-leads c =
    let s = c.in-Some in
    list_done (known c.args.state.now) (of_gate (with_operand (call (shape c.args.gate.now)) (cell_operand c.args.cell.now))) c.args.cursor.now s.rest
    (record { kind = token.Semi; at = s.rest.place - 1; bytes = 59 ∷ [] }) (record { found = s.ensures.some; same = s.ensures.same; is_semicolon = refl })
    (eq-eqb c.args.gate.now.qubits 1 (omega (arith, c.if-gate-ne1.false))) (few c)
    ∙ ap (λ (j : Known). answer_from j between s.rest) (sym (added c))
