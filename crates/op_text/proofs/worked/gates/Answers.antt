-- By computation.
use Rattle.std.proofs.Common.{refl}
use Rattle.std.specs.Fmt.{digits}
use Rattle.op_text.proofs.worked.gates.Goals as goal

pub returns-clause-one : goal.returns-clause-one
unfolding digits
returns-clause-one c = refl

pub returns-clause-two : goal.returns-clause-two
unfolding digits
returns-clause-two c = refl

pub returns-clause-angles : goal.returns-clause-angles
unfolding digits
returns-clause-angles c = refl
