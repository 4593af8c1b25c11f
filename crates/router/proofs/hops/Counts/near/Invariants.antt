use Rattle.std.proofs.Common.{◌≡◌, ℕ, ◌<◌, false}
use Rattle.router.specs.Counts.{is_near}
use Rattle.router.proofs.hops.Counts.near.Given as goal

-- none so far
abbrev pub invariant-loop-number : goal.invariant-loop-number
invariant-loop-number l = (c : ℕ) → c < l.number → is_near l.wiring l.self l.from.0 l.left c ≡ false
