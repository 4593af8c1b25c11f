use Rattle.qasm_reader.proofs.Unconditional.{no_conditions}
use Rattle.qasm_reader.proofs.laws.no_conditions.Goals as goal

pub returns : goal.returns
returns c = no_conditions
