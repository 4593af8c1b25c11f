-- The first token of a statement, and what stands behind it.
use Rattle.std.proofs.Common.{◌∙◌}
use Rattle.qasm_reader.specs.Expected.{between}
use Rattle.qasm_reader.specs.Code.{known, seen}
use Rattle.qasm_reader.proofs.Ends.{token_read}
use Rattle.qasm_reader.proofs.Leading.{leads_exit_later}
use Rattle.qasm_reader.proofs.reading.any_statement.Goals as goal

pub returns-in_err-rest-in-Some-clause-leads : goal.returns-in_err-rest-in-Some-clause-leads
returns-in_err-rest-in-Some-clause-leads c =
    let s = c.in-Some in
    leads_exit_later _ _ _ _ _ c.from_residual.ensures.1
    (token_read (known c.args.state.now) between c.args.cursor.now s.rest (seen s.first) s.ensures.some s.ensures.same) c.in_err-rest-in-Some.ensures.leads

pub returns-in_ok-rest-in-Some-clause-leads : goal.returns-in_ok-rest-in-Some-clause-leads
returns-in_ok-rest-in-Some-clause-leads c =
    let s = c.in-Some in
    token_read (known c.args.state.now) between c.args.cursor.now s.rest (seen s.first) s.ensures.some s.ensures.same ∙ c.in_ok-rest-in-Some.ensures.leads
