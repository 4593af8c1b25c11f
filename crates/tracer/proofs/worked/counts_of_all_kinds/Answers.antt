use Rattle.std.proofs.Common.{refl}
use Rattle.std.specs.Fmt.{digits}
use Rattle.tracer.proofs.worked.counts_of_all_kinds.Goals as goal

pub returns : goal.returns
unfolding digits
returns c = refl
