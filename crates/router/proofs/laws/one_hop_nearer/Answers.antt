use Rattle.router.proofs.Distances.{next_hop_none, next_hop_found}
use Rattle.router.proofs.laws.one_hop_nearer.Goals as goal

pub returns-clause-none : goal.returns-clause-none
returns-clause-none c = next_hop_none

pub returns-clause-neighbour : goal.returns-clause-neighbour
returns-clause-neighbour c = λ w a b next is. (next_hop_found w a b next is).neighbour

pub returns-clause-there : goal.returns-clause-there
returns-clause-there c = λ w a b next is. (next_hop_found w a b next is).there

pub returns-clause-nearer : goal.returns-clause-nearer
returns-clause-nearer c = λ w a b next is. (next_hop_found w a b next is).nearer

pub returns-clause-least : goal.returns-clause-least
returns-clause-least c = λ w a b next other is. (next_hop_found w a b next is).least other
