use Rattle.chain_reorder.proofs.Reorder.{to_end_short}
use Rattle.chain_reorder.proofs.laws.fewer_than_ions.Goals as goal

pub returns : goal.returns
returns c = to_end_short
