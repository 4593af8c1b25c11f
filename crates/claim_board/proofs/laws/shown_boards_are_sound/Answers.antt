use Rattle.claim_board.proofs.Moves.{board, board-is, sound-rule}
use Rattle.claim_board.proofs.laws.shown_boards_are_sound.Goals as goal

pub returns : goal.returns
returns c key s rule = (board key s rule, board-is key s rule, sound-rule key s rule, rule.shown)
