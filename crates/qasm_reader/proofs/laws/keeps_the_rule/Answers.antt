use Rattle.qasm_reader.proofs.Answered.{keeps_the_rule}
use Rattle.qasm_reader.proofs.laws.keeps_the_rule.Goals as goal

pub returns : goal.returns
returns c = keeps_the_rule
