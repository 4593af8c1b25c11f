use Rattle.std.proofs.Common.{refl}
use Rattle.loader.proofs.LegalLoads.{none_if_legal}
use Rattle.qccd_top.specs.Stage.{◌>>=◌}
use Rattle.qccd_top.proofs.laws.files_given.Goals as goal

pub returns-clause-circuit : goal.returns-clause-circuit
unfolding ◌>>=◌
returns-clause-circuit c = λ held name text d there few is. (text, (there, few), is)

pub returns-clause-program : goal.returns-clause-program
unfolding ◌>>=◌
returns-clause-program c = λ held name text m raw there few spells legal. (raw, (text, (there, few), spells), (none_if_legal m raw legal, refl))
