use Rattle.op_cells.proofs.Legalities.{why-shown}
use Rattle.op_cells.proofs.legality.legal.Goals as goal

pub returns-in-None : goal.returns-in-None
returns-in-None c = why-shown c.args.machine.now c.args.op.now c.args.cells.now c.as_slice.result.now Rattle.std.proofs.Common.None c.kind-kind.ensures.is_op c.as_slice.ensures c.in-None.ensures

pub returns-in-Some : goal.returns-in-Some
returns-in-Some c = why-shown c.args.machine.now c.args.op.now c.args.cells.now c.as_slice.result.now (Rattle.std.proofs.Common.Some c.in-Some.why) c.kind-kind.ensures.is_op c.as_slice.ensures c.in-Some.ensures
