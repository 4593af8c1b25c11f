use Rattle.qasm_reader.proofs.Answered.{not_both}
use Rattle.qasm_reader.proofs.laws.not_both.Goals as goal

pub returns : goal.returns
returns c = not_both
