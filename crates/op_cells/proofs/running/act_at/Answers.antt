use Rattle.op_cells.proofs.Adjusting.{cells-untouched}
use Rattle.op_cells.proofs.running.act_at.Goals as goal

pub returns-else-touched-eq2 : goal.returns-else-touched-eq2
returns-else-touched-eq2 c =
    cells-untouched c.args.machine.now c.args.op.now c.touches-touched.result.now c.args.cells.now c.touches-touched.ensures c.if-touched-eq1.false c.if-touched-eq2.false
