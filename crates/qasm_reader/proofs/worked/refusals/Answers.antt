-- By computation.
use Rattle.std.proofs.Common.{refl}
use Rattle.qasm_reader.specs.Reading.{reads}
use Rattle.qasm_reader.proofs.worked.refusals.Goals as goal

pub returns-clause-header : goal.returns-clause-header
unfolding reads
returns-clause-header c = refl

pub returns-clause-twice : goal.returns-clause-twice
unfolding reads
returns-clause-twice c = refl

pub returns-clause-sizes : goal.returns-clause-sizes
unfolding reads
returns-clause-sizes c = refl

pub returns-clause-angle : goal.returns-clause-angle
unfolding reads
returns-clause-angle c = refl

pub returns-clause-cut : goal.returns-clause-cut
unfolding reads
returns-clause-cut c = refl
