use Rattle.std.proofs.Common.{refl}
use Rattle.std.specs.Fmt.{digits}
use Rattle.tracer.proofs.worked.bell_pair.Goals as goal

pub returns : goal.returns
unfolding digits
returns c = refl
