use Rattle.std.proofs.Common.{None, refl, sym}
use Rattle.op_plan.proofs.Told.{home_read}
use Rattle.op_plan.proofs.reading.home_at.Goals as goal

pub returns : goal.returns
returns c p keeps below = sym (home_read p c.args.cells.now c.args.homes.now c.args.qubit c.from.result _ None keeps below c.from.ensures refl)
