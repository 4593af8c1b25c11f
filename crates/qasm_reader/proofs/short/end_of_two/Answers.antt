-- What the `;` leads to.
use Rattle.std.proofs.Common.{◌≡◌, ◌+◌, ◌-◌, ◌∷◌, [], None, false, length, refl, sym, ap, subst, ◌∙◌, arith}
use Rattle.std.specs.Prelude.{nat_lt}
use Rattle.std.proofs.lemmas.Bool.{eq-eqb}
use Rattle.std.proofs.lemmas.List.Elements.{All-cons, All-nil}
use Rattle.qccd_base.specs.declared.names.Qubit.{Qubit}
use Rattle.qccd_circuit.specs.declared.kinds.ItemKind.TheVariants.{Gate2}
use Rattle.qasm_lex.specs.declared.tokens.TokenKind.TheVariants as token
use Rattle.qasm_reader.specs.Expected.{Next, between, call, of_gate, with_operand}
use Rattle.qasm_reader.specs.Known.{Known, with_items}
use Rattle.qasm_reader.specs.Named.{shape}
use Rattle.qasm_reader.specs.Operand.{cell_of, cell_operand, gate_items}
use Rattle.qasm_reader.specs.Sound.{AreApart, IsSound, LiesBelow}
use Rattle.qasm_reader.specs.Code.{answer_behind, answer_from, known}
use Rattle.qasm_reader.proofs.Ends.{list_done}
use Rattle.qasm_reader.proofs.Fitting.{good_gate, no_angles}
use Rattle.qasm_reader.proofs.PlainGates.{apart_cells, second_done}
use Rattle.qasm_reader.proofs.Rule.{with_items_sound}
use Rattle.qasm_reader.proofs.short.end_of_two.Goals as goal
use Rattle.qasm_reader.proofs.short.end_of_two.Goals.{In_ok-add_item-in-Some}

-- there is room for the item
few : (c : In_ok-add_item-in-Some) → nat_lt 65536 (length (known c.args.state.now).items + 1) ≡ false
few c = sym c.too_many.ensures ∙ c.if-too_many.false

-- which is added
added :
    (c : In_ok-add_item-in-Some)
    → known c.add_item.new.state
    ≡ with_items (known c.args.state.now) (gate_items (shape c.args.gate.now) [] (cell_operand c.args.first.now ∷ cell_operand c.args.second.now ∷ []))
added c =
    c.in_ok-add_item-in-Some.ensures
    ∙ (λ i.
    with_items (known c.args.state.now)
    (record {
      kind = Gate2;
      name = c.args.gate.now.name.now;
      angles = [];
      qubits = c.qubit_of.ensures i ∷ c.qubit_of-2.ensures i ∷ [];
      bits = [];
      cond = None;
    } ∷ []))

-- the cells are apart
other : (c : In_ok-add_item-in-Some) → cell_of 0 (cell_operand c.args.first.now) ≡ cell_of 0 (cell_operand c.args.second.now) → ⊥
other c same = c.if-on.false (ap (λ (q : Qubit). q.0) c.qubit_of.ensures ∙ same ∙ sym (ap (λ (q : Qubit). q.0) c.qubit_of-2.ensures))

pub returns-in_ok-add_item-in-Some-clause-sound : goal.returns-in_ok-add_item-in-Some-clause-sound
returns-in_ok-add_item-in-Some-clause-sound c =
    let k = known c.args.state.now in
    let a = cell_operand c.args.first.now in
    let b = cell_operand c.args.second.now in
    let g = shape c.args.gate.now in
    let apart : AreApart (a ∷ b ∷ []) = (apart_cells c.args.first.now c.args.second.now (other c), refl, (refl, refl, tt)) in
    subst IsSound (sym (added c))
    (with_items_sound k (gate_items g [] (a ∷ b ∷ [])) c.requires.sound
    (good_gate k.qubits k.bits g [] (a ∷ b ∷ []) c.requires.is_gate no_angles apart
    (All-cons (LiesBelow k.qubits) a (b ∷ []) c.requires.first_below
    (All-cons (LiesBelow k.qubits) b [] c.requires.second_below (All-nil (LiesBelow k.qubits)))))
    (few c))

pub returns-in_ok-add_item-in-Some-clause-leads : goal.returns-in_ok-add_item-in-Some-clause-leads
returns-in_ok-add_item-in-Some-clause-leads c = λ at.
    let s = c.in-Some in
    let k = known c.args.state.now in
    let g = shape c.args.gate.now in
    let a = cell_operand c.args.first.now in
    let b = cell_operand c.args.second.now in
    ap (λ (n : Next). answer_behind n c.args.cursor.now) (second_done k g c.args.first.now c.args.second.now at (other c))
    ∙ list_done k (of_gate (with_operand (with_operand (call g) a) b)) c.args.cursor.now s.rest
    (record { kind = token.Semi; at = s.rest.place - 1; bytes = 59 ∷ [] }) (record { found = s.ensures.some; same = s.ensures.same; is_semicolon = refl })
    (eq-eqb c.args.gate.now.qubits 2 (omega (arith, c.if-gate-ne2.false))) (few c)
    ∙ ap (λ (j : Known). answer_from j between s.rest) (sym (added c))
