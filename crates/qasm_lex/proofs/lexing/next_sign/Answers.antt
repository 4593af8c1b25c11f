-- The byte behind the gap is the sign, or it is another.
use Rattle.std.proofs.Common.{drop, refl, sym, ◌∙◌}
use Rattle.qasm_lex.proofs.AnswerLemmas.{next_token_of}
use Rattle.qasm_lex.proofs.SignLemmas.{no_sign_in, sign_in}
use Rattle.qasm_lex.proofs.lexing.next_sign.Goals as goal

pub returns-then-begins_with-clause-found : goal.returns-then-begins_with-clause-found
returns-then-begins_with-clause-found c =
    sign_in c.args.text.now c.args.from c.gap_len.result c.args.byte c.args.kind c.requires.alone c.requires.sign c.requires.within c.gap_len.ensures
    (sym c.begins_with.ensures ∙ c.if-begins_with.true)

pub returns-then-begins_with-clause-each : goal.returns-then-begins_with-clause-each
returns-then-begins_with-clause-each c =
    let text = c.args.text.now in
    let next =
    sign_in text c.args.from c.gap_len.result c.args.byte c.args.kind c.requires.alone c.requires.sign c.requires.within c.gap_len.ensures
    (sym c.begins_with.ensures ∙ c.if-begins_with.true) in
    (next_token_of text (drop c.args.from text) c.args.from _ _ refl c.requires.within next.is_next).0

pub returns-else-begins_with-clause-none : goal.returns-else-begins_with-clause-none
returns-else-begins_with-clause-none c =
    no_sign_in c.args.text.now c.args.from c.gap_len.result c.args.byte c.args.kind c.requires.alone c.requires.sign c.gap_len.ensures
    (sym c.begins_with.ensures ∙ c.if-begins_with.false)
