use Rattle.std.proofs.Common.{refl}
use Rattle.passes.proofs.worked.pairs_kept_apart.Goals as goal

pub returns-clause-gate : goal.returns-clause-gate
returns-clause-gate c = refl

pub returns-clause-trap : goal.returns-clause-trap
returns-clause-trap c = refl

pub returns-clause-position : goal.returns-clause-position
returns-clause-position c = refl

pub returns-clause-segment : goal.returns-clause-segment
returns-clause-segment c = refl
