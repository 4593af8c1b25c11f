use Rattle.claim_core.specs.Board.{opening_board}
use Rattle.claim_core.proofs.Events.{history-front, history-more}
use Rattle.claim_core.proofs.laws.histories_go_on.Goals as goal

pub returns-clause-prefix : goal.returns-clause-prefix
returns-clause-prefix c p workers es n h = history-front p (opening_board p workers) es n h

pub returns-clause-further : goal.returns-clause-further
returns-clause-further c p workers es e h allowed = history-more p (opening_board p workers) es e h allowed
