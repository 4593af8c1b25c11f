-- By computation.
use Rattle.std.proofs.Common.{refl}
use Rattle.std.specs.Fmt.{digits}
use Rattle.qccd_messages.proofs.worked.programs_refused.Goals as goal

pub returns-clause-full : goal.returns-clause-full
unfolding digits
returns-clause-full c = refl

pub returns-clause-twice : goal.returns-clause-twice
unfolding digits
returns-clause-twice c = refl

pub returns-clause-chains : goal.returns-clause-chains
unfolding digits
returns-clause-chains c = refl

pub returns-clause-start : goal.returns-clause-start
unfolding digits
returns-clause-start c = refl
