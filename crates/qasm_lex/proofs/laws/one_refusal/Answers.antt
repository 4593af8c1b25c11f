use Rattle.qasm_lex.proofs.AnswerLemmas.{fault-unique}
use Rattle.qasm_lex.proofs.laws.one_refusal.Goals as goal

pub returns : goal.returns
returns c = fault-unique
