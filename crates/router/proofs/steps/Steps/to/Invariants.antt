use Rattle.router.specs.Steps.{AreLeast}
use Rattle.router.proofs.steps.Steps.to.Given as goal

-- the least numbers up to this one are known
abbrev pub invariant-loop-left : goal.invariant-loop-left
invariant-loop-left l = AreLeast l.wiring l.to.0 l.left l.steps
