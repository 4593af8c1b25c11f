use Rattle.chain_reorder.proofs.EndsThere.{brings_to_end}
use Rattle.chain_reorder.proofs.laws.brought_to_end.Goals as goal

pub returns : goal.returns
returns c = brings_to_end
