-- By computation.
use Rattle.std.proofs.Common.{refl}
use Rattle.std.specs.Fmt.{digits}
use Rattle.qccd_messages.proofs.worked.differences_told.Goals as goal

pub returns-clause-order : goal.returns-clause-order
unfolding digits
returns-clause-order c = refl

pub returns-clause-missing : goal.returns-clause-missing
unfolding digits
returns-clause-missing c = refl
