use Rattle.router.specs.Hops.{distance}
use Rattle.router.specs.Wiring.{wiring_of}
use Rattle.rebalancer.proofs.making.+hand_along.Given as goal

-- each trap of the way is one hop nearer to the goal
abbrev pub decreases-hand_along : goal.decreases-hand_along
decreases-hand_along l = distance (wiring_of l.machine.now) l.from.0 l.goal.0
