-- Both operands have a cell for each measurement.
use Rattle.std.proofs.Common.{◌≡◌, ◌<◌, ℕ, List, ◌∷◌, ◌++◌, [], refl, ap, subst, ◌∙◌, arith, flat_map}
use Rattle.std.specs.List.{range_with_len}
use Rattle.std.proofs.lemmas.List.Concat.{flat_map_single}
use Rattle.qccd_circuit.specs.Item.{ItemData}
use Rattle.qasm_reader.specs.Known.{with_items}
use Rattle.qasm_reader.specs.Operand.{cell_of, measure_item, times}
use Rattle.qasm_reader.specs.Code.{known}
use Rattle.qasm_reader.proofs.Cells.{is_cell}
use Rattle.qasm_reader.proofs.Ends.{added}
use Rattle.qasm_reader.proofs.Fitting.{alike_cells}
use Rattle.qasm_reader.proofs.statements.add_measures.Goals as goal

pub cell_of-requires : goal.cell_of-requires
cell_of-requires c =
    let turn = c.loop-turn.turn in
    let has = alike_cells c.args.left.now c.args.right.now turn c.requires.alike (subst (λ (n : ℕ). turn < n) c.own_turns-turn-end.ensures c.loop-turn-test.true) in
    omega (arith, (is_cell turn c.args.left.now has.0).below, c.requires.left_below.below, c.requires.sound.circuit.few_qubits)

pub cell_of-requires-in-loop-turn : goal.cell_of-requires-in-loop-turn
cell_of-requires-in-loop-turn c =
    let turn = c.loop-turn.turn in
    let has = alike_cells c.args.left.now c.args.right.now turn c.requires.alike (subst (λ (n : ℕ). turn < n) c.own_turns-turn-end.ensures c.loop-turn-test.true) in
    omega (arith, (is_cell turn c.args.right.now has.1).below, c.requires.right_below.below, c.requires.sound.circuit.few_bits)

pub loop-turn-preserved : goal.loop-turn-preserved
loop-turn-preserved c =
    let before = known c.loop-turn.state in
    added (known c.args.state.now) before _ (λ i. measure_item (cell_of i c.args.left.now) (cell_of i c.args.right.now) ∷ []) c.loop-turn.turn _
    c.loop-turn.invariant
    (ap (λ (items : List ItemData). record before { items = items })
    (c.in_ok-push.ensures.items
    ∙ ap (λ (d : ItemData). c.loop-turn.state.items.items ++ d ∷ [])
    (c.in_ok-item.ensures ∙ (λ i. measure_item (c.cell_of.ensures i) (c.cell_of-in-loop-turn.ensures i)))))
    refl

pub returns : goal.returns
returns c =
    let item : ℕ → ItemData = λ i. measure_item (cell_of i c.args.left.now) (cell_of i c.args.right.now) in
    let all : c.loop-turn.turn ≡ times (c.args.left.now ∷ []) = omega (arith, c.loop-turn-test.false, c.loop-turn.auto.turn-end, c.own_turns-turn-end.ensures) in
    c.loop-turn.invariant
    ∙ ap (with_items (known c.args.state.now))
    (ap (λ (n : ℕ). flat_map (λ i. item i ∷ []) (range_with_len 0 n)) all ∙ flat_map_single item (range_with_len 0 (times (c.args.left.now ∷ []))))
