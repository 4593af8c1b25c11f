use Rattle.qccd_top.proofs.Loaded.{spelled_within}
use Rattle.qccd_top.proofs.programs.raw_of.Goals as goal

pub returns-in-Ok-clause-limits : goal.returns-in-Ok-clause-limits
returns-in-Ok-clause-limits c = spelled_within _ _ c.in-Ok.ensures
