use Rattle.op_cells.proofs.Adjusting.{noted-first}
use Rattle.op_cells.proofs.running.note_first_at.Goals as goal

pub returns-in-len1-up : goal.returns-in-len1-up
returns-in-len1-up c =
    noted-first c.args.machine.now c.args.touched.now c.args.cells.now c.index_of.result c.args.done _ c.index-cells-index_of.result c.note.new.self c.in-len1-up.len_at_least c.index_of.ensures c.note.ensures
