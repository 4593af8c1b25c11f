use Rattle.std.proofs.Common.{sym, ◌∙◌}
use Rattle.claim_core.proofs.Coded.{board-next, suits-board}
use Rattle.claim_core.proofs.board.Board.act.Goals as goal

pub fault_of-requires-clause-suits : goal.fault_of-requires-clause-suits
fault_of-requires-clause-suits c = suits-board c.args.program.now c.args.self.now c.ops-ops.ensures.legal c.requires.board

pub make-requires-clause-suits : goal.make-requires-clause-suits
make-requires-clause-suits c = suits-board c.args.program.now c.args.self.now c.ops-ops.ensures.legal c.requires.board

pub returns-in-None-clause-board : goal.returns-in-None-clause-board
returns-in-None-clause-board c =
    board-next c.args.program.now c.args.self.now c.make.new.self c.args.event c.requires.board (record { there = c.requires.there; granted = sym c.fault_of.ensures ∙ c.in-None.is; leaves = c.make.ensures })
