-- By computation.
use Rattle.std.proofs.Common.{refl}
use Rattle.std.specs.Fmt.{digits}
use Rattle.qccd_messages.proofs.worked.texts_refused.Goals as goal

pub returns-clause-cut : goal.returns-clause-cut
unfolding digits
returns-clause-cut c = refl

pub returns-clause-version : goal.returns-clause-version
unfolding digits
returns-clause-version c = refl
