use Rattle.std.proofs.Common.{◌∙◌, ap, set, sym}
use Rattle.op_cells.specs.declared.cells.Cell.{Cell}
use Rattle.op_cells.specs.Rested.{rested}
use Rattle.op_cells.proofs.Adjusting.{adjust-set}
use Rattle.op_cells.proofs.cooling.rest_at.Goals as goal

pub returns-clause-cell : goal.returns-clause-cell
returns-clause-cell c =
    ap (λ (d : Cell). set c.args.cells.now c.args.at d) c.rest.ensures.cell ∙ sym (adjust-set rested c.args.cells.now c.args.at c.index-cells-at.result)
