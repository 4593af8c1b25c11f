use Rattle.router.proofs.Rounds.{none_known}
use Rattle.router.proofs.steps.Steps.to.Goals as goal

pub loop-left-init : goal.loop-left-init
loop-left-init c = none_known
