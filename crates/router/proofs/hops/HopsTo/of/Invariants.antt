use Rattle.std.proofs.Common.{◌≡◌, map}
use Rattle.std.specs.List.{range_with_len}
use Rattle.router.specs.Tables.{hop_of}
use Rattle.router.proofs.hops.HopsTo.of.Given as goal

-- the hops so far
abbrev pub invariant-loop-number : goal.invariant-loop-number
invariant-loop-number l = l.from.items ≡ map (hop_of l.wiring l.to.0) (range_with_len 0 l.number)
