use Rattle.std.proofs.Common.{drop, refl}
use Rattle.qasm_lex.specs.declared.tokens.TokenKind.TheVariants.{Word}
use Rattle.qasm_lex.proofs.AnswerLemmas.{next_token_of}
use Rattle.qasm_lex.proofs.ReadingLemmas.{next_in}
use Rattle.qasm_lex.proofs.SignLemmas.{no_kind_in}
use Rattle.qasm_lex.proofs.lexing.next_word.Goals as goal

pub returns-in-Some-clause-found : goal.returns-in-Some-clause-found
returns-in-Some-clause-found c =
    next_in c.args.text.now c.args.from c.gap_len.result c.in-Some.len Word c.requires.within c.gap_len.ensures c.in-Some.ensures.found

pub returns-in-Some-clause-each : goal.returns-in-Some-clause-each
returns-in-Some-clause-each c =
    let text = c.args.text.now in
    let next = next_in text c.args.from c.gap_len.result c.in-Some.len Word c.requires.within c.gap_len.ensures c.in-Some.ensures.found in
    (next_token_of text (drop c.args.from text) c.args.from _ _ refl c.requires.within next.is_next).0

pub returns-in-None-clause-none : goal.returns-in-None-clause-none
returns-in-None-clause-none c = no_kind_in c.args.text.now c.args.from c.gap_len.result Word c.gap_len.ensures c.in-None.ensures.none
