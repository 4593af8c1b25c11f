use Rattle.qccd_machine.proofs.Every.{every_parts}
use Rattle.qccd_machine.proofs.laws.every_parts.Goals as goal

pub returns : goal.returns
returns c = every_parts
