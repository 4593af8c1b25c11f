use Rattle.claim_core.proofs.Coded.{enabled-both, suits-board}
use Rattle.claim_core.proofs.board.Board.is_enabled.Goals as goal

pub are_ready-requires-clause-wide : goal.are_ready-requires-clause-wide
are_ready-requires-clause-wide c = (suits-board c.args.program.now c.args.self.now c.ops-ops.ensures.legal c.requires.board).sound.wide

pub returns : goal.returns
returns c = enabled-both c.args.program.now c.args.self.now c.args.op c.are_ready.result c.ops-ops.ensures.legal c.requires.board c.are_ready.ensures
