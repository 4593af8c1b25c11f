use Rattle.std.proofs.Common.{take}
use Rattle.claim_core.specs.Board.{opening_board}
use Rattle.claim_core.proofs.Ends.{commits-run}
use Rattle.claim_core.proofs.Events.{history-front}
use Rattle.claim_core.proofs.laws.commits_run.Goals as goal

pub returns : goal.returns
returns c p workers es n legal h = commits-run p workers (take n es) legal (history-front p (opening_board p workers) es n h)
