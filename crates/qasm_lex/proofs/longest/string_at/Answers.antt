-- The run of bytes behind the quote ends at the quote that closes the string, or it is not closed.
use Rattle.std.proofs.Common.{sym, ◌∙◌}
use Rattle.qasm_lex.proofs.FrontLemmas.{open_at_front, text_at_front}
use Rattle.qasm_lex.proofs.longest.string_at.Goals as goal

pub returns-then-begins_with-clause-found : goal.returns-then-begins_with-clause-found
returns-then-begins_with-clause-found c =
    text_at_front c.args.text.now c.text_bytes_len-inner.result c.requires c.text_bytes_len-inner.ensures
    (sym c.begins_with.ensures ∙ c.if-begins_with.true)

pub returns-else-begins_with-clause-none : goal.returns-else-begins_with-clause-none
returns-else-begins_with-clause-none c =
    open_at_front c.args.text.now c.text_bytes_len-inner.result c.requires c.text_bytes_len-inner.ensures
    (sym c.begins_with.ensures ∙ c.if-begins_with.false)
