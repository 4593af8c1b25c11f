-- Behind the gap stands the longest token, or none.
use Rattle.std.proofs.Common.{◌+◌, drop, refl, sym, ◌∙◌}
use Rattle.qasm_lex.proofs.AnswerLemmas.{next_token_of}
use Rattle.qasm_lex.proofs.ReadingLemmas.{next_in, quote_absent, quote_there, some_left, stuck_in}
use Rattle.qasm_lex.proofs.lexing.next_token.Goals as goal

pub returns-in-Some-clause-found : goal.returns-in-Some-clause-found
returns-in-Some-clause-found c =
    next_in c.args.text.now c.args.from c.gap_len.result c.in-Some.len c.in-Some.kind c.requires.within c.gap_len.ensures c.in-Some.ensures.found

pub returns-in-Some-clause-each : goal.returns-in-Some-clause-each
returns-in-Some-clause-each c =
    let text = c.args.text.now in
    let next =
    next_in text c.args.from c.gap_len.result c.in-Some.len c.in-Some.kind c.requires.within c.gap_len.ensures c.in-Some.ensures.found in
    (next_token_of text (drop c.args.from text) c.args.from _ _ refl c.requires.within next.is_next).0

pub returns-then-begins_with-clause-fault : goal.returns-then-begins_with-clause-fault
returns-then-begins_with-clause-fault c = (
  stuck_in c.args.text.now c.args.from c.gap_len.result c.gap_len.ensures (some_left _ c.is_empty.result c.is_empty.ensures c.if-is_empty.false)
      c.in_default.ensures.none,
  quote_there c.args.text.now (c.args.from + c.gap_len.result) (sym c.begins_with.ensures ∙ c.if-begins_with.true),
)

pub returns-else-begins_with-clause-fault : goal.returns-else-begins_with-clause-fault
returns-else-begins_with-clause-fault c = (
  stuck_in c.args.text.now c.args.from c.gap_len.result c.gap_len.ensures (some_left _ c.is_empty.result c.is_empty.ensures c.if-is_empty.false)
      c.in_default.ensures.none,
  quote_absent c.args.text.now (c.args.from + c.gap_len.result) (sym c.begins_with.ensures ∙ c.if-begins_with.false),
)
