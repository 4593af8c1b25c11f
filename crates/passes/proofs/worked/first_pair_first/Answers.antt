use Rattle.std.proofs.Common.{refl}
use Rattle.passes.proofs.worked.first_pair_first.Goals as goal

pub returns-clause-three : goal.returns-clause-three
returns-clause-three c = refl

pub returns-clause-four : goal.returns-clause-four
returns-clause-four c = refl

pub returns-clause-moves : goal.returns-clause-moves
returns-clause-moves c = refl
