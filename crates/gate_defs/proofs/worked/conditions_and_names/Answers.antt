-- By computation.
use Rattle.std.proofs.Common.{refl}
use Rattle.gate_defs.proofs.worked.conditions_and_names.Goals as goal

pub returns-clause-barrier : goal.returns-clause-barrier
returns-clause-barrier c = refl

pub returns-clause-cswap : goal.returns-clause-cswap
returns-clause-cswap c = refl
