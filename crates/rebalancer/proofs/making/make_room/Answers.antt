use Rattle.std.proofs.Common.{◌∙◌, ap, sym}
use Rattle.std.proofs.lemmas.Result.{on_ok_weaker}
use Rattle.op_plan.specs.Plan.{state_of, with_ops}
use Rattle.rebalancer.specs.Room.{nearest, pair_of}
use Rattle.rebalancer.proofs.Handing.{few_for_goal, goal_leads, no_goal, room_by_goal, trap_number}
use Rattle.rebalancer.proofs.Planned.{plan_safe, there_ion}
use Rattle.rebalancer.proofs.Results.{room_done}
use Rattle.rebalancer.proofs.making.make_room.Goals as goal

pub unreachable-requires : goal.unreachable-requires
unreachable-requires c = no_goal c.args.machine.now (state_of c.args.plan.now) c.args.trap.0 c.requires.free.0 c.traps-traps.ensures.valid c.requires.there c.requires.free.1 (sym c.in-None.is ∙ c.nearest.ensures)

pub hand_along-requires-clause-way : goal.hand_along-requires-clause-way
hand_along-requires-clause-way c =
    (goal_leads c.args.machine.now c.args.plan.now c.args.trap.0 c.requires.free.0 c.in-Some.goal.0 c.traps-traps.ensures.valid c.requires.machine c.ops-ops.ensures.is_plan c.requires.there c.requires.free.1
    (trap_number (nearest c.args.machine.now (state_of c.args.plan.now) c.args.trap.0) c.in-Some.goal c.in-Some.ensures)).0

pub hand_along-requires-clause-few : goal.hand_along-requires-clause-few
hand_along-requires-clause-few c =
    let leads = goal_leads c.args.machine.now c.args.plan.now c.args.trap.0 c.requires.free.0 c.in-Some.goal.0 c.traps-traps.ensures.valid c.requires.machine c.ops-ops.ensures.is_plan c.requires.there c.requires.free.1
    (trap_number (nearest c.args.machine.now (state_of c.args.plan.now) c.args.trap.0) c.in-Some.goal c.in-Some.ensures) in
    few_for_goal c.args.machine.now c.args.plan.now c.args.trap.0 c.in-Some.goal.0 leads.1 c.requires.few

pub returns-clause-done : goal.returns-clause-done
returns-clause-done c =
    on_ok_weaker c.hand_along.result
    (λ is. is ∙ ap (with_ops c.args.plan.now)
    (sym (room_by_goal c.args.machine.now (state_of c.args.plan.now) c.args.trap.0 c.in-Some.goal.0 (pair_of c.args.keep) c.args.mode (trap_number (nearest c.args.machine.now (state_of c.args.plan.now) c.args.trap.0) c.in-Some.goal c.in-Some.ensures)))) c.hand_along.ensures.done

pub returns-clause-makes : goal.returns-clause-makes
returns-clause-makes c =
    (room_done c.args.machine.now (state_of c.args.plan.now) c.args.trap.0 c.requires.free.0 (pair_of c.args.keep) c.args.mode c.traps-traps.ensures.valid (plan_safe c.args.machine.now c.args.plan.now c.requires.machine c.ops-ops.ensures.is_plan) c.requires.outside c.requires.there c.requires.free.1
    (there_ion c.args.plan.now (pair_of c.args.keep).0 c.requires.first) (there_ion c.args.plan.now (pair_of c.args.keep).1 c.requires.second) c.requires.two_traps).0

pub returns-clause-few : goal.returns-clause-few
returns-clause-few c =
    (room_done c.args.machine.now (state_of c.args.plan.now) c.args.trap.0 c.requires.free.0 (pair_of c.args.keep) c.args.mode c.traps-traps.ensures.valid (plan_safe c.args.machine.now c.args.plan.now c.requires.machine c.ops-ops.ensures.is_plan) c.requires.outside c.requires.there c.requires.free.1
    (there_ion c.args.plan.now (pair_of c.args.keep).0 c.requires.first) (there_ion c.args.plan.now (pair_of c.args.keep).1 c.requires.second) c.requires.two_traps).1
