use Rattle.router.proofs.LeastPath.{path_is_first}
use Rattle.router.proofs.laws.first_of_all_lists.Goals as goal

pub returns : goal.returns
returns c = path_is_first
