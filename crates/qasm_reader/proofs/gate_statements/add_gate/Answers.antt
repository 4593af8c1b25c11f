-- The cells of each application are distinct, and its items are added behind the others.
use Rattle.std.proofs.Common.{◌<◌, ℕ, List, map, refl, ap, subst}
use Rattle.qccd_circuit.specs.Item.{ItemData}
use Rattle.qasm_reader.specs.Gates.{applied}
use Rattle.qasm_reader.specs.Named.{shape}
use Rattle.qasm_reader.specs.Operand.{cell_of}
use Rattle.qasm_reader.specs.Code.{known}
use Rattle.qasm_reader.proofs.Cells.{cells_few, distinct_cells, each_has_cell}
use Rattle.qasm_reader.proofs.Ends.{added}
use Rattle.qasm_reader.proofs.gate_statements.add_gate.Goals as goal

pub apply-requires-clause-distinct : goal.apply-requires-clause-distinct
apply-requires-clause-distinct c =
    let turn = c.loop-turn.turn in
    let os = c.args.operands.now in
    distinct_cells turn os c.requires.apart (each_has_cell turn os c.requires.apart (subst (λ (n : ℕ). turn < n) c.turns-turn-end.ensures c.loop-turn-test.true))

pub apply-requires-clause-below : goal.apply-requires-clause-below
apply-requires-clause-below c =
    let turn = c.loop-turn.turn in
    let os = c.args.operands.now in
    cells_few turn c.args.state.now.qubits os c.requires.sound.circuit.few_qubits c.requires.below
    (each_has_cell turn os c.requires.apart (subst (λ (n : ℕ). turn < n) c.turns-turn-end.ensures c.loop-turn-test.true))

pub loop-turn-preserved : goal.loop-turn-preserved
loop-turn-preserved c =
    let before = known c.loop-turn.state in
    added (known c.args.state.now) before _ (λ i. applied (shape c.args.gate.now) c.args.angles.now (map (cell_of i) c.args.operands.now)) c.loop-turn.turn _
    c.loop-turn.invariant (ap (λ (items : List ItemData). record before { items = items }) c.in_ok-apply.ensures) refl
