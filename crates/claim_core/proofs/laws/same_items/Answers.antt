use Rattle.claim_core.proofs.Ordered.{same-items}
use Rattle.claim_core.proofs.laws.same_items.Goals as goal

pub returns : goal.returns
returns c p workers es a b legal h two = same-items p workers es a b legal h two
