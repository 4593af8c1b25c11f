-- By computation.
use Rattle.std.proofs.Common.{refl}
use Rattle.std.specs.Fmt.{digits}
use Rattle.op_text.proofs.worked.fences.Goals as goal

pub returns : goal.returns
unfolding digits
returns c = refl
