-- By computation.
use Rattle.std.proofs.Common.{refl}
use Rattle.gate_defs.proofs.worked.nested.Goals as goal

pub returns : goal.returns
returns c = refl
