use Rattle.qasm_reader.proofs.Answered.{every_text}
use Rattle.qasm_reader.proofs.laws.every_text.Goals as goal

pub returns : goal.returns
returns c = every_text
