use Rattle.std.proofs.Common.{◌≡◌, map}
use Rattle.std.specs.List.{range_with_len}
use Rattle.router.specs.Tables.{paths_to}
use Rattle.router.proofs.routes.paths_of.Given as goal

-- the paths to the traps so far
abbrev pub invariant-loop-number : goal.invariant-loop-number
invariant-loop-number l = l.paths.items ≡ map (paths_to l.wiring) (range_with_len 0 l.number)
