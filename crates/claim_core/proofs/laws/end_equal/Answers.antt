use Rattle.claim_core.proofs.Cells.{cells-last}
use Rattle.claim_core.proofs.Ends.{ends-equal}
use Rattle.claim_core.proofs.Timing.{all-timed}
use Rattle.claim_core.proofs.laws.end_equal.Goals as goal

pub returns-clause-state : goal.returns-clause-state
returns-clause-state c p workers es legal h all = ends-equal p workers es legal h all

pub returns-clause-times : goal.returns-clause-times
returns-clause-times c p workers es k legal h all there = all-timed p workers es k legal h all there

pub returns-clause-cells : goal.returns-clause-cells
returns-clause-cells c p workers es r legal h all = cells-last p workers es legal h all r
