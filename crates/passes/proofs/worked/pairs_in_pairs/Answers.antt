use Rattle.std.proofs.Common.{refl}
use Rattle.passes.proofs.worked.pairs_in_pairs.Goals as goal

pub returns-clause-exchanges : goal.returns-clause-exchanges
returns-clause-exchanges c = refl

pub returns-clause-way : goal.returns-clause-way
returns-clause-way c = refl

pub returns-clause-inner : goal.returns-clause-inner
returns-clause-inner c = refl

pub returns-clause-positions : goal.returns-clause-positions
returns-clause-positions c = refl
