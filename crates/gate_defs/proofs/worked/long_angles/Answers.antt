-- By computation.
use Rattle.std.proofs.Common.{refl}
use Rattle.gate_defs.proofs.worked.long_angles.Goals as goal

pub returns-clause-inner : goal.returns-clause-inner
returns-clause-inner c = refl

pub returns-clause-short : goal.returns-clause-short
returns-clause-short c = refl

pub returns-clause-no_items : goal.returns-clause-no_items
returns-clause-no_items c = refl

pub returns-clause-alone : goal.returns-clause-alone
returns-clause-alone c = refl
