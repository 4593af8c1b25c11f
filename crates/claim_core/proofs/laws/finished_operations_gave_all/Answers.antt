use Rattle.claim_core.proofs.Passing.{finished-given}
use Rattle.claim_core.proofs.laws.finished_operations_gave_all.Goals as goal

pub returns : goal.returns
returns c = finished-given
