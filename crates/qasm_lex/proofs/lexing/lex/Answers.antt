-- The text ends behind the tokens, or a fault stands behind them.
use Rattle.std.proofs.Common.{[], List, None, subst}
use Rattle.std.proofs.lemmas.List.{append-nil}
use Rattle.std.proofs.lemmas.Result.{err_from_is_err_and}
use Rattle.qasm_lex.specs.declared.tokens.Token.{Token}
use Rattle.qasm_lex.specs.Reading.{AreTokens, IsFaultOf}
use Rattle.qasm_lex.proofs.AnswerLemmas.{fault_behind, not_both, only_memory, same_fault, tokens-unique, tokens_each}
use Rattle.qasm_lex.proofs.lexing.lex.Goals as goal
use Rattle.qasm_lex.proofs.lexing.lex.Goals.{After-drop-tokens, In_default}

-- the fault at which reading stopped is one of the text
told : (c : After-drop-tokens) → IsFaultOf c.args.text.now c.in_err-token.field-0.0
told c =
    fault_behind c.args.text.now c.loop-tokens.from c.loop-tokens.tokens.items c.in_err-token.field-0.0 c.loop-tokens.invariant.goes_on
    c.in_err-token.ensures.fault

pub returns-in_err-token-clause-fault : goal.returns-in_err-token-clause-fault
returns-in_err-token-clause-fault c =
    let p = err_from_is_err_and c.from_residual.result c.from_residual.ensures.1 in rw (p.1, p.2) (told c)

pub returns-in_err-token-clause-read : goal.returns-in_err-token-clause-read
returns-in_err-token-clause-read c = λ ts are.
    let p = err_from_is_err_and c.from_residual.result c.from_residual.ensures.1 in
    rw (p.1, p.2) (only_memory c.args.text.now ts c.in_err-token.field-0.0 are (told c))

pub returns-in_err-token-clause-refused : goal.returns-in_err-token-clause-refused
returns-in_err-token-clause-refused c = λ fault is.
    let p = err_from_is_err_and c.from_residual.result c.from_residual.ensures.1 in
    rw (p.1, p.2) (same_fault c.args.text.now fault c.in_err-token.field-0.0 is (told c))

-- the tokens are those of the whole text
whole : (c : In_default) → AreTokens c.args.text.now c.loop-tokens.tokens.items
whole c =
    let items : List Token = c.loop-tokens.tokens.items in
    let end = rw c.in_default.is at c.in_ok-token.ensures.end in
    subst (λ (ts : List Token). AreTokens c.args.text.now ts) (append-nil items) (c.loop-tokens.invariant.goes_on [] None end)

pub returns-clause-tokens : goal.returns-clause-tokens
returns-clause-tokens c = whole c

pub returns-clause-read : goal.returns-clause-read
returns-clause-read c = λ ts are. tokens-unique c.args.text.now c.loop-tokens.tokens.items ts (whole c) are

pub returns-clause-refused : goal.returns-clause-refused
returns-clause-refused c = λ fault is. not_both c.args.text.now c.loop-tokens.tokens.items fault (whole c) is

pub returns-clause-each : goal.returns-clause-each
returns-clause-each c = tokens_each c.args.text.now c.loop-tokens.tokens.items (whole c)
