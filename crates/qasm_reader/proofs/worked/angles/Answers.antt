-- By computation.
use Rattle.std.proofs.Common.{refl}
use Rattle.qasm_reader.specs.Reading.{reads}
use Rattle.qasm_reader.proofs.worked.angles.Goals as goal

pub returns : goal.returns
unfolding reads
returns c = refl
