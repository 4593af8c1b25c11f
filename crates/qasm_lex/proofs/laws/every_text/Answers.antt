use Rattle.qasm_lex.proofs.AnswerLemmas.{tokens_or_fault}
use Rattle.qasm_lex.proofs.laws.every_text.Goals as goal

pub returns : goal.returns
returns c = tokens_or_fault
