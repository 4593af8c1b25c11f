use Rattle.std.proofs.Common.{◌≡◌}
use Rattle.qccd_machine.specs.declared.place.Place.{Place}
use Rattle.qccd_machine.specs.Machine.{site}
use Rattle.router.specs.Steps.{HasCount, steps_at}
use Rattle.router.proofs.Rounds.{so_far}
use Rattle.router.proofs.steps.Steps.further.Given as goal

-- what the segments so far lead to
abbrev pub invariant-loop-a : goal.invariant-loop-a
invariant-loop-a l = (p : Place) → HasCount p → steps_at l.steps p ≡ so_far l.wiring l.to.0 l.left l.a-index (site p)
