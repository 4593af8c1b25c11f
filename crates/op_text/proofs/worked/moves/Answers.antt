-- By computation.
use Rattle.std.proofs.Common.{refl}
use Rattle.std.specs.Fmt.{digits}
use Rattle.op_text.proofs.worked.moves.Goals as goal

pub returns-clause-along : goal.returns-clause-along
unfolding digits
returns-clause-along c = refl

pub returns-clause-into : goal.returns-clause-into
unfolding digits
returns-clause-into c = refl

pub returns-clause-out_of : goal.returns-clause-out_of
unfolding digits
returns-clause-out_of c = refl
