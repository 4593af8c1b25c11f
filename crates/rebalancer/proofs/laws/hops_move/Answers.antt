use Rattle.rebalancer.proofs.Results.{hop_done}
use Rattle.rebalancer.proofs.laws.hops_move.Goals as goal

pub returns-clause-moves : goal.returns-clause-moves
returns-clause-moves c = λ m s q to mode valid safe nothing less near room. (hop_done m s q to mode valid safe nothing less near room).0

pub returns-clause-short : goal.returns-clause-short
returns-clause-short c = λ m s q to mode valid safe nothing less near room. (hop_done m s q to mode valid safe nothing less near room).1
