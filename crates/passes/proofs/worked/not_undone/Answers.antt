use Rattle.std.proofs.Common.{refl}
use Rattle.passes.proofs.worked.not_undone.Goals as goal

pub returns-clause-kinds : goal.returns-clause-kinds
returns-clause-kinds c = refl

pub returns-clause-positions : goal.returns-clause-positions
returns-clause-positions c = refl

pub returns-clause-ends : goal.returns-clause-ends
returns-clause-ends c = refl

pub returns-clause-junctions : goal.returns-clause-junctions
returns-clause-junctions c = refl

pub returns-clause-crossed : goal.returns-clause-crossed
returns-clause-crossed c = refl
