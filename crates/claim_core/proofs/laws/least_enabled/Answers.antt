use Rattle.claim_core.proofs.Ends.{board-sound, enabled}
use Rattle.claim_core.proofs.laws.least_enabled.Goals as goal

pub returns : goal.returns
returns c p b k legal is least = enabled p b k (board-sound p b legal is).sound least
