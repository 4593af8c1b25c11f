-- By computation.
use Rattle.std.proofs.Common.{refl}
use Rattle.gate_defs.proofs.worked.measures.Goals as goal

pub returns-clause-depths : goal.returns-clause-depths
returns-clause-depths c = refl

pub returns-clause-weights : goal.returns-clause-weights
returns-clause-weights c = refl

pub returns-clause-counts : goal.returns-clause-counts
returns-clause-counts c = refl
