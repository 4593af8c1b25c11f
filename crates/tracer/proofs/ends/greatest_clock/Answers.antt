use Rattle.std.proofs.Common.{◌≡◌, List, map, max, ◌∙◌, ap, arith}
use Rattle.std.proofs.lemmas.List.{take_all}
use Rattle.qccd_base.specs.Greatest.{greatest}
use Rattle.op_cells.specs.declared.cells.Cell.{Cell}
use Rattle.tracer.proofs.Ending.{clock_more}
use Rattle.tracer.proofs.ends.greatest_clock.Goals as goal

pub loop-cell-preserved : goal.loop-cell-preserved
loop-cell-preserved c =
    let more = clock_more c.args.cells.now c.loop-cell.cell-index c.cell-item.result c.loop-cell-test.true in
    let here = ap (λ (x : Cell). x.free_at) c.cell-item.is in
    let most : c.max-most.result ≡ max c.cell-item.result.free_at c.loop-cell.most = c.max-most.ensures in
    omega (arith, most, more, here, c.loop-cell.invariant)

pub returns : goal.returns
returns c = c.loop-cell.invariant ∙ ap (λ (cells : List Cell). greatest (map (λ (x : Cell). x.free_at) cells)) (take_all c.loop-cell.cell-index c.args.cells.now (omega arith))
