use Rattle.std.proofs.Common.{◌≡◌, map}
use Rattle.std.specs.List.{range_with_len}
use Rattle.router.specs.Tables.{hops_to}
use Rattle.router.proofs.routes.hops_of.Given as goal

-- the hops to the traps so far
abbrev pub invariant-loop-number : goal.invariant-loop-number
invariant-loop-number l = l.hops.items ≡ map (hops_to l.wiring) (range_with_len 0 l.number)
