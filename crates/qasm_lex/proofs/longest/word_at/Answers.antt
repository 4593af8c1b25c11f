use Rattle.qasm_lex.proofs.FrontLemmas.{word_at_front}
use Rattle.qasm_lex.proofs.longest.word_at.Goals as goal

pub returns : goal.returns
returns c = word_at_front c.args.text.now c.word_bytes_len.result c.requires c.word_bytes_len.ensures
