-- By computation.
use Rattle.std.proofs.Common.{refl}
use Rattle.std.specs.Fmt.{digits}
use Rattle.op_text.proofs.worked.measurement_and_reset.Goals as goal

pub returns-clause-measure : goal.returns-clause-measure
unfolding digits
returns-clause-measure c = refl

pub returns-clause-reset : goal.returns-clause-reset
unfolding digits
returns-clause-reset c = refl
