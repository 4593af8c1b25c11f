use Rattle.qasm_lex.proofs.AnswerLemmas.{tokens-unique}
use Rattle.qasm_lex.proofs.laws.one_list.Goals as goal

pub returns : goal.returns
returns c = tokens-unique
