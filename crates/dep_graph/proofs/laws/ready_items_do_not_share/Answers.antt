use Rattle.dep_graph.proofs.Rounds.{ready-apart}
use Rattle.dep_graph.proofs.laws.ready_items_do_not_share.Goals as goal

pub returns : goal.returns
returns c = ready-apart
