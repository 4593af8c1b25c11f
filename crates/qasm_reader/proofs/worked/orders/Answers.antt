-- By computation.
use Rattle.std.proofs.Common.{refl}
use Rattle.qasm_reader.specs.Reading.{reads}
use Rattle.qasm_reader.proofs.worked.orders.Goals as goal

pub returns-clause-unknown : goal.returns-clause-unknown
unfolding reads
returns-clause-unknown c = refl

pub returns-clause-classical : goal.returns-clause-classical
unfolding reads
returns-clause-classical c = refl

pub returns-clause-angles : goal.returns-clause-angles
unfolding reads
returns-clause-angles c = refl

pub returns-clause-none : goal.returns-clause-none
unfolding reads
returns-clause-none c = refl

pub returns-clause-end : goal.returns-clause-end
unfolding reads
returns-clause-end c = refl

pub returns-clause-left : goal.returns-clause-left
unfolding reads
returns-clause-left c = refl

pub returns-clause-index : goal.returns-clause-index
unfolding reads
returns-clause-index c = refl

pub returns-clause-count : goal.returns-clause-count
unfolding reads
returns-clause-count c = refl

pub returns-clause-again : goal.returns-clause-again
unfolding reads
returns-clause-again c = refl

pub returns-clause-empty : goal.returns-clause-empty
unfolding reads
returns-clause-empty c = refl

pub returns-clause-many : goal.returns-clause-many
unfolding reads
returns-clause-many c = refl

pub returns-clause-file : goal.returns-clause-file
unfolding reads
returns-clause-file c = refl

pub returns-clause-before : goal.returns-clause-before
unfolding reads
returns-clause-before c = refl
