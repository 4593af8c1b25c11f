use Rattle.std.proofs.Common.{refl}
use Rattle.qccd_machine.specs.Preset.{at_junction, at_left, at_right}
use Rattle.qccd_machine.proofs.worked.joined_to_themselves.Goals as goal

pub returns-clause-trap : goal.returns-clause-trap
returns-clause-trap c = ((at_left 0, at_right 0), refl, refl)

pub returns-clause-junction : goal.returns-clause-junction
returns-clause-junction c = ((at_junction 0, at_junction 0), refl, refl)
