use Rattle.std.proofs.Common.{refl}
use Rattle.std.specs.Fmt.{digits}
use Rattle.tracer.proofs.worked.summary_of_eight_operations.Goals as goal

pub returns : goal.returns
unfolding digits
returns c = refl
