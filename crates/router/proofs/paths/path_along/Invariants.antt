use Rattle.std.proofs.Common.{◌≡◌, ◌<◌, ◌++◌, Some, map}
use Rattle.std.specs.Prelude.{option_map}
use Rattle.qccd_machine.specs.Machine.{site}
use Rattle.router.specs.Paths.{path_of}
use Rattle.router.specs.Steps.{HasCount, steps_at}
use Rattle.router.proofs.Following.{rest_of}
use Rattle.router.proofs.paths.path_along.Given as goal

-- the segments so far, and the least path of those that are left
abbrev pub invariant-loop-left : goal.invariant-loop-left
invariant-loop-left l = record {
  whole : path_of l.wiring l.to.0 l.count (site l.fn.start) ≡ option_map (λ rest. map (λ g. g.0) l.path.items ++ rest) (rest_of l.wiring l.to.0 l.left (site l.place));
  known : 0 < l.left → steps_at l.steps l.place ≡ Some l.left;
  there : HasCount l.place;
}

abbrev pub decreases-loop-left : goal.decreases-loop-left
decreases-loop-left l = l.left
