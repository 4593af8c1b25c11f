use Rattle.op_cells.proofs.Wholes.{untouched}
use Rattle.op_cells.proofs.held.act.Goals as goal

pub returns-else-held-eq2 : goal.returns-else-held-eq2
returns-else-held-eq2 c = untouched c.args.machine.now c.args.op.now c.args.held.now c.requires.names c.if-held-eq1.false c.if-held-eq2.false
