use Rattle.std.proofs.Common.{List, map, ◌∙◌, ap}
use Rattle.qccd_base.specs.Greatest.{greatest}
use Rattle.op_cells.specs.declared.cells.Cell.{Cell}
use Rattle.tracer.proofs.Ending.{clocks-end}
use Rattle.tracer.proofs.ends.last_finish.Goals as goal

pub returns : goal.returns
returns c =
    c.greatest_clock.ensures ∙ ap (λ (cells : List Cell). greatest (map (λ (x : Cell). x.free_at) cells)) c.as_slice.ensures
    ∙ clocks-end c.args.program.now c.args.cells.now c.ops-ops.ensures.legal c.requires
