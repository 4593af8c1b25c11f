use Rattle.qccd_program.proofs.MeetsCells.{meets-cells}
use Rattle.qccd_program.proofs.laws.next_cells.Goals as goal

pub returns : goal.returns
returns c = meets-cells
