use Rattle.std.proofs.Common.{◌≡◌, ℕ, ◌+◌, ◌<◌, ◌≤◌}
use Rattle.router.specs.Counts.{count_at, least_hops}
use Rattle.router.proofs.hops.Counts.further.Given as goal

-- one more round for the traps so far
abbrev pub invariant-loop-number : goal.invariant-loop-number
invariant-loop-number l = record {
  done : (a : ℕ) → a < l.number → count_at l.counts a ≡ least_hops l.wiring l.fn.to.0 (l.count + 1) a;
  left : (a : ℕ) → l.number ≤ a → a < l.wiring.traps → count_at l.counts a ≡ least_hops l.wiring l.fn.to.0 l.count a;
}
