use Rattle.claim_core.proofs.Coded.{index-there}
use Rattle.claim_core.proofs.board.Board.first_not_got.Goals as goal

pub got-requires-clause-there : goal.got-requires-clause-there
got-requires-clause-there c = index-there c.args.program.now c.args.op c.loop-r.r-index c.touched_by-touched.result.now _ c.requires.claims c.touched_by-touched.ensures c.loop-r-test.true
