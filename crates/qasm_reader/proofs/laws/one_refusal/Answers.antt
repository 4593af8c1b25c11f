use Rattle.qasm_reader.proofs.Answered.{one_refusal}
use Rattle.qasm_reader.proofs.laws.one_refusal.Goals as goal

pub returns : goal.returns
returns c = one_refusal
