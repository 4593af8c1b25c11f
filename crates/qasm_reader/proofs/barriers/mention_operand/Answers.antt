-- The cells are a range from the first on.
use Rattle.std.proofs.Common.{◌≡◌, sym, ap, subst, ◌∙◌, arith}
use Rattle.std.specs.List.{range_with_len}
use Rattle.std.proofs.Math.ListN.{set}
use Rattle.qasm_reader.specs.Operand.{cells, with_mentions}
use Rattle.qasm_reader.specs.Mentioned.{AreReached, numbers}
use Rattle.qasm_reader.proofs.Reached.{all_there, cells_are, reached_next}
use Rattle.qasm_reader.proofs.barriers.mention_operand.Goals as goal

pub returns-in_ok-mention_cells-clause-reached : goal.returns-in_ok-mention_cells-clause-reached
returns-in_ok-mention_cells-clause-reached c =
    let ns = numbers c.args.qubits.now.items in
    let first = c.first_cell-first.result in
    let count = c.cell_count-then-reach-first.result in
    let same : range_with_len first count ≡ cells c.args.operand.now =
    (λ i. range_with_len (c.first_cell-first.ensures i) (c.cell_count-then-reach-first.ensures i)) ∙ sym (cells_are c.args.operand.now) in
    subst (AreReached (set c.args.reach.now first count)) (ap (with_mentions ns) same ∙ sym c.in_ok-mention_cells.ensures.value)
    (reached_next c.args.reach.now ns first count
    (omega (arith, c.requires.below.some, c.requires.below.below, c.first_cell-first.ensures, c.cell_count-then-reach-first.array_long2)) c.requires.reached)

pub returns-else-reach-first-clause-value : goal.returns-else-reach-first-clause-value
returns-else-reach-first-clause-value c =
    let ns = numbers c.args.qubits.now.items in
    let first = c.first_cell-first.result in
    let count = c.cell_count.result in
    let same : range_with_len first count ≡ cells c.args.operand.now =
    (λ i. range_with_len (c.first_cell-first.ensures i) (c.cell_count.ensures i)) ∙ sym (cells_are c.args.operand.now) in
    sym (ap (with_mentions ns) (sym same)
    ∙ all_there ns first count (λ i less. c.requires.reached first i (omega (arith, c.requires.below.some, c.requires.below.below, c.first_cell-first.ensures)) (omega (arith, less, c.if-reach-first.false))))
