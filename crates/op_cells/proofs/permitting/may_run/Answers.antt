use Rattle.std.proofs.Common.{◌∙◌, sym}
use Rattle.op_cells.proofs.Permitted.{permitted}
use Rattle.op_cells.proofs.permitting.may_run.Goals as goal

pub returns-then-bounded : goal.returns-then-bounded
returns-then-bounded c has =
    permitted c.args.machine.now c.args.op.now c.args.cells.now c.as_slice-list.result.now c.touches-touched.result.now c.as_slice-list.ensures c.touches-touched.ensures
    (sym c.are_within-within.ensures ∙ c.if-bounded.true.0) (c.is_legal-legal.ensures c.if-bounded.true.1) (sym c.are_bounded-bounded.ensures ∙ c.if-bounded.true.2) (c.first_has_room-room.ensures has)
