use Rattle.rebalancer.proofs.Results.{one_to_hand}
use Rattle.rebalancer.proofs.laws.one_to_hand_on.Goals as goal

pub returns : goal.returns
returns c = one_to_hand
