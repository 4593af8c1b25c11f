use Rattle.claim_board.proofs.Begins.{begin-happens, reach-happens}
use Rattle.claim_board.proofs.Gives.{give-happens}
use Rattle.claim_board.proofs.Looks.{look-stays}
use Rattle.claim_board.proofs.laws.steps_are_events.Goals as goal

pub returns-clause-begin : goal.returns-clause-begin
returns-clause-begin c key s seat v held k r rule at may free = begin-happens key s seat v held k r rule at may free

pub returns-clause-reach : goal.returns-clause-reach
returns-clause-reach c key s seat v held k r rule at may = reach-happens key s seat v held k r rule at may

pub returns-clause-give : goal.returns-clause-give
returns-clause-give c key s seat v held k r cell rule at may is = give-happens key s seat v held k r cell rule at may is

pub returns-clause-look : goal.returns-clause-look
returns-clause-look c key s seat v held r rule at live there = look-stays key s seat v held r rule at live there
