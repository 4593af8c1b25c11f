-- The operand has a cell for each reset.
use Rattle.std.proofs.Common.{◌≡◌, ◌<◌, ℕ, List, ◌∷◌, ◌++◌, [], refl, sym, ap, subst, ◌∙◌, arith, flat_map}
use Rattle.std.specs.List.{range_with_len}
use Rattle.std.proofs.lemmas.List.Concat.{flat_map_single}
use Rattle.std.proofs.lemmas.List.Elements.{All-head}
use Rattle.qasm_reader.specs.Sound.{HasCell}
use Rattle.qccd_circuit.specs.Item.{Fits, ItemData}
use Rattle.qasm_reader.specs.Known.{with_items}
use Rattle.qasm_reader.specs.Operand.{cell_of, reset_item, times}
use Rattle.qasm_reader.specs.Code.{known}
use Rattle.qasm_reader.proofs.Cells.{each_has_cell, is_cell}
use Rattle.qasm_reader.proofs.Ends.{added}
use Rattle.qasm_reader.proofs.Fitting.{reset_fits}
use Rattle.qasm_reader.proofs.statements.add_resets.Goals as goal

pub cell_of-requires : goal.cell_of-requires
cell_of-requires c =
    let turn = c.loop-turn.turn in
    let on = c.args.on.now in
    let has = All-head (HasCell turn) on [] (each_has_cell turn (on ∷ []) (refl, refl, tt) (subst (λ (n : ℕ). turn < n) c.own_turns-turn-end.ensures c.loop-turn-test.true)) in
    omega (arith, (is_cell turn on has).below, c.requires.below.below, c.requires.sound.circuit.few_qubits)

pub item_on-requires : goal.item_on-requires
item_on-requires c =
    subst (λ (angles : List (List ℕ)). Fits (record (reset_item c.cell_of.result) { angles = angles })) (sym (c.of-angles.ensures ∙ c.new.ensures.items)) (reset_fits c.cell_of.result)

pub loop-turn-preserved : goal.loop-turn-preserved
loop-turn-preserved c =
    let before = known c.loop-turn.state in
    added (known c.args.state.now) before _ (λ i. reset_item (cell_of i c.args.on.now) ∷ []) c.loop-turn.turn _
    c.loop-turn.invariant
    (ap (λ (items : List ItemData). record before { items = items })
    (c.in_ok-push.ensures.items
    ∙ ap (λ (d : ItemData). c.loop-turn.state.items.items ++ d ∷ [])
    (c.in_ok-item.ensures ∙ (λ i. record (reset_item (c.cell_of.ensures i)) { angles = (c.of-angles.ensures ∙ c.new.ensures.items) i }))))
    refl

pub returns : goal.returns
returns c =
    let item : ℕ → ItemData = λ i. reset_item (cell_of i c.args.on.now) in
    let all : c.loop-turn.turn ≡ times (c.args.on.now ∷ []) = omega (arith, c.loop-turn-test.false, c.loop-turn.auto.turn-end, c.own_turns-turn-end.ensures) in
    c.loop-turn.invariant
    ∙ ap (with_items (known c.args.state.now))
    (ap (λ (n : ℕ). flat_map (λ i. item i ∷ []) (range_with_len 0 n)) all ∙ flat_map_single item (range_with_len 0 (times (c.args.on.now ∷ []))))
