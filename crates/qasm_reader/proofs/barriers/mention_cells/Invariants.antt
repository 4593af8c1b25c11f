use Rattle.std.proofs.Common.{◌≡◌, ◌+◌, ◌-◌}
use Rattle.std.specs.List.{range_with_len}
use Rattle.qasm_reader.specs.Operand.{cell_count, cells, first_cell, with_mentions}
use Rattle.qasm_reader.specs.Mentioned.{AreSeen, numbers}
use Rattle.qasm_reader.proofs.barriers.mention_cells.Given as goal

-- with the cells that are left they are mentioned as with all
abbrev pub invariant-loop-cell : goal.invariant-loop-cell
invariant-loop-cell l =
    record {
      seen : AreSeen l.marks (numbers l.qubits.items);
      value : with_mentions (numbers l.fn.qubits.items) (cells l.operand)
          ≡ with_mentions (numbers l.qubits.items) (range_with_len l.cell (first_cell l.operand + cell_count l.operand - l.cell));
    }
