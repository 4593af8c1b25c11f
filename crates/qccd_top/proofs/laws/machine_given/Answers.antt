use Rattle.std.proofs.Common.{refl}
use Rattle.qccd_top.specs.Stage.{◌>>=◌}
use Rattle.qccd_top.proofs.laws.machine_given.Goals as goal

pub returns-clause-preset : goal.returns-clause-preset
returns-clause-preset c = λ held which capacity. refl

pub returns-clause-file : goal.returns-clause-file
unfolding ◌>>=◌
returns-clause-file c = λ held name text m there few is. (text, (there, few), is)
