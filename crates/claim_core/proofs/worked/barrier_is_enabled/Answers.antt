use Rattle.claim_core.proofs.Examples.{barrier-least, barrier-enabled}
use Rattle.claim_core.proofs.worked.barrier_is_enabled.Goals as goal

pub returns-clause-least : goal.returns-clause-least
returns-clause-least c = barrier-least

pub returns-clause-enabled : goal.returns-clause-enabled
returns-clause-enabled c = barrier-enabled
