-- The next cell is the first of those that are left.
use Rattle.std.proofs.Common.{ℕ, ◌+◌, ◌-◌, List, sym, ap, ◌∙◌, arith}
use Rattle.std.specs.List.{range_with_len}
use Rattle.qasm_reader.specs.Operand.{cell_count, first_cell, with_mentions}
use Rattle.qasm_reader.specs.Mentioned.{numbers}
use Rattle.qasm_reader.proofs.Mentions.{range_next}
use Rattle.qasm_reader.proofs.barriers.mention_cells.Goals as goal

pub loop-cell-preserved : goal.loop-cell-preserved
loop-cell-preserved c =
    let l = c.loop-cell in
    let end = first_cell c.args.operand.now + cell_count c.args.operand.now in
    record {
      seen = c.in_ok-mention.ensures.seen;
      value = l.invariant.value
          ∙ ap (with_mentions (numbers l.qubits.items)) (range_next l.cell end (omega (arith, c.loop-cell-test.true, c.first_cell-first.ensures, c.cell_count.ensures)))
          ∙ ap (λ (found : List ℕ). with_mentions found (range_with_len (l.cell + 1) (end - (l.cell + 1)))) (sym c.in_ok-mention.ensures.value);
    }
