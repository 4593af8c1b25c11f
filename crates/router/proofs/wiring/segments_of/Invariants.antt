use Rattle.std.proofs.Common.{◌≡◌, take}
use Rattle.router.proofs.wiring.segments_of.Given as goal

-- the segments so far
abbrev pub invariant-loop-number : goal.invariant-loop-number
invariant-loop-number l = l.segments.items ≡ take l.number l.machine.segments
