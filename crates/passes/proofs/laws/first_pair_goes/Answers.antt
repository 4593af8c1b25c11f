use Rattle.std.proofs.Common.{[]}
use Rattle.passes.proofs.Removing.{first_is, first_none}
use Rattle.passes.proofs.laws.first_pair_goes.Goals as goal

pub returns-clause-goes : goal.returns-clause-goes
returns-clause-goes c = λ ops left is. first_is [] ops left tt is

pub returns-clause-none : goal.returns-clause-none
returns-clause-none c = λ ops is. first_none [] ops tt is
