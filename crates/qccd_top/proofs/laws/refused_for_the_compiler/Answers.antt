use Rattle.qccd_top.proofs.Stopping.{compiler_refuses, rehearsal_refuses}
use Rattle.qccd_top.proofs.laws.refused_for_the_compiler.Goals as goal

pub returns-clause-read : goal.returns-clause-read
returns-clause-read c = compiler_refuses

pub returns-clause-made : goal.returns-clause-made
returns-clause-made c = rehearsal_refuses
