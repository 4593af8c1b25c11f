-- What is left at each place tells what is left at the next.
use Rattle.std.proofs.Common.{ℕ, Option, ◌∙◌, subst}
use Rattle.std.proofs.lemmas.Result.{err_from_is_err_and}
use Rattle.qasm_lex.specs.Reading.{Reads}
use Rattle.qasm_lex.proofs.LeftLemmas.{end_left, first_fault, next_left, reads_left, tokens_left}
use Rattle.qasm_lex.proofs.lexing.check.Goals as goal

pub returns-in_err-token-clause-fault : goal.returns-in_err-token-clause-fault
returns-in_err-token-clause-fault c =
    let p = err_from_is_err_and c.from_residual.result c.from_residual.ensures.1 in
    rw (p.1, p.2)
    (first_fault c.args.text.now c.loop-token.from c.in_err-token.field-0.0 c.loop-token.invariant.same c.in_err-token.ensures.fault)

pub loop-token-preserved : goal.loop-token-preserved
loop-token-preserved c =
    let found = rw c.in-Some.is at c.in_ok-token.ensures.found in
    let next = next_left c.args.text.now c.loop-token.from c.in-Some.token found in
    record { within = found.fits; same = c.loop-token.invariant.same ∙ next.1 }

pub returns-clause-tokens : goal.returns-clause-tokens
returns-clause-tokens c =
    let text = c.args.text.now in
    let end = end_left text c.loop-token.from (rw c.in_default.is at c.in_ok-token.ensures.end) in
    (tokens_left text 0, subst (λ (stuck : Option ℕ). Reads text 0 (tokens_left text 0) stuck) (c.loop-token.invariant.same ∙ end.1) (reads_left text 0))
