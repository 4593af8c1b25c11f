use Rattle.op_cells.proofs.InOrder.{in-order}
use Rattle.op_cells.proofs.laws.in_order.Goals as goal

pub returns : goal.returns
returns c = in-order
