use Rattle.std.proofs.Common.{List, get_or, ◌∙◌, ap}
use Rattle.qccd_machine.specs.Machine.{MachineData}
use Rattle.op_cells.specs.declared.cells.Cell.{Cell}
use Rattle.op_cells.specs.Numbering.{index_of}
use Rattle.tracer.proofs.Ending.{held_is}
use Rattle.tracer.proofs.ends.held_at_end.Goals as goal

pub returns : goal.returns
returns c =
    ap (λ (cells : List Cell). (get_or cells c.index_of.result c.index-as_slice-index_of.result).content) c.as_slice.ensures
    ∙ held_is c.args.program.now c.args.cells.now c.args.r c.index_of.result c.index-as_slice-index_of.result c.requires.at_end c.requires.there
    (c.index_of.ensures ∙ ap (λ (m : MachineData). index_of m c.args.r) c.machine.ensures.value)
