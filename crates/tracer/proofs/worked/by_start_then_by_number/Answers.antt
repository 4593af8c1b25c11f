use Rattle.std.proofs.Common.{refl}
use Rattle.tracer.proofs.worked.by_start_then_by_number.Goals as goal

pub returns-clause-times : goal.returns-clause-times
returns-clause-times c = refl

pub returns-clause-none : goal.returns-clause-none
returns-clause-none c = refl
