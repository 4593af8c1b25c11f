use Rattle.claim_core.proofs.Coded.{index-at, index-there}
use Rattle.claim_core.proofs.board.Board.are_ready.Goals as goal

pub slot-requires-clause-there : goal.slot-requires-clause-there
slot-requires-clause-there c = index-there c.args.program.now c.args.op c.loop-i.i c.touched_by-touched.result.now _ c.requires.claims c.touched_by-touched.ensures c.loop-i-test.true

pub needed-requires-clause-there : goal.needed-requires-clause-there
needed-requires-clause-there c = index-at c.args.program.now c.args.op c.loop-i.i c.touched_by-touched.result.now _ c.touched_by-touched.ensures c.loop-i-test.true
