use Rattle.std.proofs.Common.{sym, ◌∙◌}
use Rattle.qasm_lex.proofs.FrontLemmas.{word_at_front, word_begins}
use Rattle.qasm_lex.proofs.longest.word_len.Goals as goal

pub returns-then-begins_letter-clause-found : goal.returns-then-begins_letter-clause-found
returns-then-begins_letter-clause-found c =
    word_at_front c.args.text.now c.word_bytes_len.result (sym c.begins_letter.ensures ∙ c.if-begins_letter.true) c.word_bytes_len.ensures

pub returns-else-begins_letter-clause-none : goal.returns-else-begins_letter-clause-none
returns-else-begins_letter-clause-none c = λ len. word_begins c.args.text.now len (sym c.begins_letter.ensures ∙ c.if-begins_letter.false)
