use Rattle.op_cells.proofs.Adjusting.{one-adjusted}
use Rattle.op_cells.proofs.running.act_at_one.Goals as goal

pub returns : goal.returns
returns c = one-adjusted c.args.machine.now c.args.op.now c.args.cells.now c.args.at c.index-cells-at.result c.change_one.new.content c.requires.within c.change_one.ensures
