use Rattle.claim_board.proofs.Begun.{gone-begun, touched-below}
use Rattle.claim_board.proofs.laws.gone_was_begun.Goals as goal

pub returns : goal.returns
returns c p b k r legal is on gone = gone-begun p b k r legal is (touched-below p.ops k r on) on gone
