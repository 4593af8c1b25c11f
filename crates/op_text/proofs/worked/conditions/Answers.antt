-- By computation.
use Rattle.std.proofs.Common.{refl}
use Rattle.std.specs.Fmt.{digits}
use Rattle.op_text.proofs.worked.conditions.Goals as goal

pub returns-clause-gate : goal.returns-clause-gate
unfolding digits
returns-clause-gate c = refl

pub returns-clause-two : goal.returns-clause-two
unfolding digits
returns-clause-two c = refl

pub returns-clause-measure : goal.returns-clause-measure
unfolding digits
returns-clause-measure c = refl
