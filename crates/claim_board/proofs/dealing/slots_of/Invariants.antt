use Rattle.std.proofs.Common.{◌≡◌, ◌++◌, List, length, map, reverse, Some}
use Rattle.op_cells.specs.declared.cells.Cell.{Cell}
use Rattle.qccd_program.specs.AllCells.{AtStep}
use Rattle.claim_board.proofs.dealing.slots_of.Given as goal

abbrev pub invariant-loop-cell : goal.invariant-loop-cell
invariant-loop-cell l = (all : List Cell) × AtStep l.program 0 all × (map Some all ≡ map Some l.cells.items ++ reverse l.slots.items)

abbrev pub decreases-loop-cell : goal.decreases-loop-cell
decreases-loop-cell l = length l.cells.items
