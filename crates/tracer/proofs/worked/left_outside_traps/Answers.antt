-- By computation.
use Rattle.std.proofs.Common.{refl}
use Rattle.std.specs.Fmt.{digits}
use Rattle.tracer.proofs.worked.left_outside_traps.Goals as goal

pub returns-clause-end_a : goal.returns-clause-end_a
unfolding digits
returns-clause-end_a c = refl

pub returns-clause-end_b : goal.returns-clause-end_b
unfolding digits
returns-clause-end_b c = refl

pub returns-clause-junction : goal.returns-clause-junction
unfolding digits
returns-clause-junction c = refl

pub returns-clause-empty : goal.returns-clause-empty
unfolding digits
returns-clause-empty c = refl

pub returns-clause-trap : goal.returns-clause-trap
unfolding digits
returns-clause-trap c = refl
