-- By computation.
use Rattle.std.proofs.Common.{refl}
use Rattle.std.specs.Fmt.{digits}
use Rattle.qccd_messages.proofs.worked.not_built_told.Goals as goal

pub returns : goal.returns
unfolding digits
returns c = refl
