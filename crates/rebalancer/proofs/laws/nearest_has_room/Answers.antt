use Rattle.rebalancer.proofs.Nearest.{nearest_is}
use Rattle.rebalancer.proofs.Results.{room_there}
use Rattle.rebalancer.proofs.laws.nearest_has_room.Goals as goal

pub returns : goal.returns
returns c = λ m s t free valid there room. nearest_is m s t free valid there (room_there m s free room) room
