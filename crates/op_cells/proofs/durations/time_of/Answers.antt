use Rattle.op_cells.proofs.ShortSteps.{short-time}
use Rattle.op_cells.proofs.durations.time_of.Goals as goal

pub returns-clause-small : goal.returns-clause-small
returns-clause-small c = short-time c.args.machine.now.times c.times.result.now c.work_of.result c.duration.result c.traps-count.ensures.valid.times c.times.ensures c.work_of.ensures.small c.duration.ensures
