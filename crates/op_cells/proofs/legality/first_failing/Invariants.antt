use Rattle.std.proofs.Common.{◌≡◌, drop}
use Rattle.qccd_base.specs.FirstFailing.{first_failing}
use Rattle.op_cells.proofs.legality.first_failing.Given as goal

abbrev pub invariant-loop-need : goal.invariant-loop-need
invariant-loop-need l = first_failing (drop l.need-index l.needs) ≡ first_failing l.needs
