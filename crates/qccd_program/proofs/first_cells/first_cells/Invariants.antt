use Rattle.qccd_program.specs.First.{FirstCells}
use Rattle.qccd_program.proofs.first_cells.first_cells.Given as goal

abbrev pub invariant-loop-room : goal.invariant-loop-room
invariant-loop-room l = FirstCells l.fn.program l.room-index l.cells.items
