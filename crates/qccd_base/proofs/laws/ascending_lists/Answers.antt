use Rattle.qccd_base.proofs.Resources.{IsAscending-ascending, among-ascending, ascending-own}
use Rattle.qccd_base.proofs.laws.ascending_lists.Goals as goal

pub returns-clause-ascends : goal.returns-clause-ascends
returns-clause-ascends c = IsAscending-ascending

pub returns-clause-same : goal.returns-clause-same
returns-clause-same c = among-ascending

pub returns-clause-stays : goal.returns-clause-stays
returns-clause-stays c = ascending-own
