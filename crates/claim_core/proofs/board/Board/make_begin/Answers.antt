use Rattle.claim_core.proofs.Coded.{head-there}
use Rattle.claim_core.proofs.board.Board.make_begin.Goals as goal

pub begin-requires-clause-there : goal.begin-requires-clause-there
begin-requires-clause-there c = head-there c.args.program.now c.args.op c.touched_by.result.now _ c.requires.claims c.requires.op c.touched_by.ensures
