use Rattle.router.specs.Counts.{AreCounts}
use Rattle.router.proofs.hops.Counts.to.Given as goal

-- the least numbers below this one are known
abbrev pub invariant-loop-count : goal.invariant-loop-count
invariant-loop-count l = AreCounts l.wiring l.to.0 l.count l.counts
