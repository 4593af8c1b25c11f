use Rattle.qasm_lex.proofs.AnswerLemmas.{not_both}
use Rattle.qasm_lex.proofs.laws.not_both.Goals as goal

pub returns : goal.returns
returns c = not_both
