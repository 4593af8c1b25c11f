use Rattle.std.proofs.Common.{◌≡◌, map}
use Rattle.std.specs.List.{range_with_len}
use Rattle.router.specs.Paths.{hop_path}
use Rattle.router.proofs.paths.PathsTo.of.Given as goal

-- the paths so far
abbrev pub invariant-loop-number : goal.invariant-loop-number
invariant-loop-number l = l.from.items ≡ map (λ a. hop_path l.wiring a l.to.0) (range_with_len 0 l.number)
