use Rattle.claim_core.proofs.Ends.{faithful-commits}
use Rattle.claim_core.proofs.Legally.{claims-legal}
use Rattle.claim_core.proofs.laws.commits_are_faithful.Goals as goal

pub returns : goal.returns
returns c p workers es legal h = (faithful-commits p workers es (claims-legal p legal) h).0
