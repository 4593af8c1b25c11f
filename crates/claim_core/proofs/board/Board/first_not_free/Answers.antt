use Rattle.std.proofs.Common.{sym, ◌∙◌}
use Rattle.claim_core.specs.Event.{is_free, not_free}
use Rattle.claim_core.proofs.Coded.{first-found}
use Rattle.claim_core.proofs.board.Board.first_not_free.Goals as goal

pub returns-then-is_some : goal.returns-then-is_some
returns-then-is_some c =
    first-found (not_free c.args.program.now c.args.self.now c.args.op) (is_free c.args.program.now c.args.self.now c.args.op) c.touched_by-touched.result.now _ c.loop-i.i _ c.why_not_free-why.result
    c.touched_by-touched.ensures c.loop-i-test.true c.loop-i.invariant c.why_not_free-why.ensures (sym c.is_some.ensures ∙ c.if-is_some.true)
