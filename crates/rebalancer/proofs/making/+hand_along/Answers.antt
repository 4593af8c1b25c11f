use Rattle.std.proofs.Common.{arith, ◌∙◌, refl}
use Rattle.std.proofs.lemmas.Result.{on_err_weaker, on_ok_weaker}
use Rattle.op_plan.specs.Plan.{state_of}
use Rattle.router.proofs.Distances.{next_hop_found}
use Rattle.rebalancer.specs.Room.{pair_of}
use Rattle.rebalancer.proofs.Appending.{continues_on}
use Rattle.rebalancer.proofs.Handing.{fewer_left, handing, next_known, nothing_more, one_nearer, way_on}
use Rattle.rebalancer.proofs.making.+hand_along.Goals as goal

pub hand_along-requires : goal.hand_along-requires
hand_along-requires t c =
    let next = next_known c.args.machine.now c.args.routes.now c.args.from.0 c.args.goal.0 c.in-Some.next c.requires.routes c.in-Some.ensures.hop in
    let way = way_on c.args.machine.now (state_of c.args.plan.now) c.args.from.0 c.in-Some.next.0 c.args.goal.0 c.traps-traps.ensures.valid c.requires.way next in
    let nearer = one_nearer c.args.machine.now c.args.from.0 c.args.goal.0 c.in-Some.next.0 next in (
      omega (arith, c.decreases, nearer),
      (c.requires.machine, (c.requires.routes, (way, (c.requires.first, (c.requires.second, (c.requires.two_traps, (c.requires.outside, fewer_left c.args.machine.now c.args.from.0 c.args.goal.0 c.in-Some.next.0 _ next c.requires.few))))))),
    )

pub hand_on-requires-clause-machine : goal.hand_on-requires-clause-machine
hand_on-requires-clause-machine t c =
    (handing c.args.machine.now c.args.plan.now c.hand_along.new.plan c.args.from.0 c.in-Some.next.0 c.args.goal.0 (pair_of c.args.keep) c.args.mode c.traps-traps.ensures.valid c.requires.machine c.ops-ops.ensures.is_plan c.requires.outside c.requires.first c.requires.second c.requires.two_traps c.requires.way c.requires.few (next_known c.args.machine.now c.args.routes.now c.args.from.0 c.args.goal.0 c.in-Some.next c.requires.routes c.in-Some.ensures.hop) c.in_ok-hand_along-in-Some.ensures.done).agrees

pub hand_on-requires-clause-neighbour : goal.hand_on-requires-clause-neighbour
hand_on-requires-clause-neighbour t c =
    (handing c.args.machine.now c.args.plan.now c.hand_along.new.plan c.args.from.0 c.in-Some.next.0 c.args.goal.0 (pair_of c.args.keep) c.args.mode c.traps-traps.ensures.valid c.requires.machine c.ops-ops.ensures.is_plan c.requires.outside c.requires.first c.requires.second c.requires.two_traps c.requires.way c.requires.few (next_known c.args.machine.now c.args.routes.now c.args.from.0 c.args.goal.0 c.in-Some.next c.requires.routes c.in-Some.ensures.hop) c.in_ok-hand_along-in-Some.ensures.done).neighbour

pub hand_on-requires-clause-free : goal.hand_on-requires-clause-free
hand_on-requires-clause-free t c =
    (handing c.args.machine.now c.args.plan.now c.hand_along.new.plan c.args.from.0 c.in-Some.next.0 c.args.goal.0 (pair_of c.args.keep) c.args.mode c.traps-traps.ensures.valid c.requires.machine c.ops-ops.ensures.is_plan c.requires.outside c.requires.first c.requires.second c.requires.two_traps c.requires.way c.requires.few (next_known c.args.machine.now c.args.routes.now c.args.from.0 c.args.goal.0 c.in-Some.next c.requires.routes c.in-Some.ensures.hop) c.in_ok-hand_along-in-Some.ensures.done).free

pub hand_on-requires-clause-outside : goal.hand_on-requires-clause-outside
hand_on-requires-clause-outside t c =
    (handing c.args.machine.now c.args.plan.now c.hand_along.new.plan c.args.from.0 c.in-Some.next.0 c.args.goal.0 (pair_of c.args.keep) c.args.mode c.traps-traps.ensures.valid c.requires.machine c.ops-ops.ensures.is_plan c.requires.outside c.requires.first c.requires.second c.requires.two_traps c.requires.way c.requires.few (next_known c.args.machine.now c.args.routes.now c.args.from.0 c.args.goal.0 c.in-Some.next c.requires.routes c.in-Some.ensures.hop) c.in_ok-hand_along-in-Some.ensures.done).outside

pub hand_on-requires-clause-few : goal.hand_on-requires-clause-few
hand_on-requires-clause-few t c =
    (handing c.args.machine.now c.args.plan.now c.hand_along.new.plan c.args.from.0 c.in-Some.next.0 c.args.goal.0 (pair_of c.args.keep) c.args.mode c.traps-traps.ensures.valid c.requires.machine c.ops-ops.ensures.is_plan c.requires.outside c.requires.first c.requires.second c.requires.two_traps c.requires.way c.requires.few (next_known c.args.machine.now c.args.routes.now c.args.from.0 c.args.goal.0 c.in-Some.next c.requires.routes c.in-Some.ensures.hop) c.in_ok-hand_along-in-Some.ensures.done).few

pub hand_on-requires-clause-to : goal.hand_on-requires-clause-to
hand_on-requires-clause-to t c =
    (next_hop_found _ c.args.from.0 c.args.goal.0 c.in-Some.next.0 (next_known c.args.machine.now c.args.routes.now c.args.from.0 c.args.goal.0 c.in-Some.next c.requires.routes c.in-Some.ensures.hop)).there

pub returns-in-None-clause-done : goal.returns-in-None-clause-done
returns-in-None-clause-done t c = nothing_more c.args.machine.now c.args.plan.now c.args.from c.args.goal (pair_of c.args.keep) c.args.mode c.traps-traps.ensures.valid c.requires.way.there (c.in-None.ensures.none.0 refl)

pub returns-in_ok-hand_along-in-Some-clause-done : goal.returns-in_ok-hand_along-in-Some-clause-done
returns-in_ok-hand_along-in-Some-clause-done t c =
    let on = handing c.args.machine.now c.args.plan.now c.hand_along.new.plan c.args.from.0 c.in-Some.next.0 c.args.goal.0 (pair_of c.args.keep) c.args.mode c.traps-traps.ensures.valid c.requires.machine c.ops-ops.ensures.is_plan c.requires.outside c.requires.first c.requires.second c.requires.two_traps c.requires.way c.requires.few (next_known c.args.machine.now c.args.routes.now c.args.from.0 c.args.goal.0 c.in-Some.next c.requires.routes c.in-Some.ensures.hop) c.in_ok-hand_along-in-Some.ensures.done in
    on_ok_weaker c.hand_on.result (λ is. is ∙ on.whole) c.hand_on.ensures.done

pub returns-in_ok-hand_along-in-Some-clause-refused : goal.returns-in_ok-hand_along-in-Some-clause-refused
returns-in_ok-hand_along-in-Some-clause-refused t c =
    let on = handing c.args.machine.now c.args.plan.now c.hand_along.new.plan c.args.from.0 c.in-Some.next.0 c.args.goal.0 (pair_of c.args.keep) c.args.mode c.traps-traps.ensures.valid c.requires.machine c.ops-ops.ensures.is_plan c.requires.outside c.requires.first c.requires.second c.requires.two_traps c.requires.way c.requires.few (next_known c.args.machine.now c.args.routes.now c.args.from.0 c.args.goal.0 c.in-Some.next c.requires.routes c.in-Some.ensures.hop) c.in_ok-hand_along-in-Some.ensures.done in
    on_err_weaker c.hand_on.result (continues_on c.args.plan.now c.hand_along.new.plan c.hand_on.new.plan on.so_far) c.hand_on.ensures.refused
