-- By computation.
use Rattle.std.proofs.Common.{refl}
use Rattle.gate_defs.proofs.worked.parameters.Goals as goal

pub returns-clause-sum : goal.returns-clause-sum
returns-clause-sum c = refl

pub returns-clause-token : goal.returns-clause-token
returns-clause-token c = refl

pub returns-clause-alone : goal.returns-clause-alone
returns-clause-alone c = refl
