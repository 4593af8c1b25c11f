use Rattle.std.proofs.Common.{◌∙◌, drop, length}
use Rattle.op_cells.proofs.ColdRuns.{cold-kept}
use Rattle.op_cells.proofs.cells.run_cold.Goals as goal

pub returns : goal.returns
returns c =
    cold-kept c.args.machine.now c.args.op.now c.args.cells.now c.as_mut_slice.result.now c.run_cold_on.new.cells (drop (length c.run_cold_on.new.cells) c.cells.inside.cells.items) c.cells.inside.cells.len
    (c.as_mut_slice.ensures.value ∙ c.cells.view_is) c.as_mut_slice.ensures.len c.run_cold_on.ensures
