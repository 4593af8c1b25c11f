use Rattle.std.proofs.Common.{arith, ◌+◌, ◌∙◌, ap, option_map, refl, subst, sym}
use Rattle.op_plan.specs.Plan.{state_of}
use Rattle.router.specs.Hops.{distance}
use Rattle.router.specs.Wiring.{WiringData}
use Rattle.rebalancer.specs.declared.making.Goal.{Goal}
use Rattle.rebalancer.specs.Goal.{IsBest}
use Rattle.rebalancer.proofs.Searching.{best_is, best_next}
use Rattle.rebalancer.proofs.making.nearest.Goals as goal

pub loop-number-preserved : goal.loop-number-preserved
loop-number-preserved c =
    subst (IsBest c.args.machine.now (state_of c.args.plan.now) c.args.from.0 (c.loop-number.number + 1)) (sym c.better-best.ensures)
    (best_next c.args.machine.now (state_of c.args.plan.now) c.args.from.0 c.loop-number.number _ c.has_room.result c.loop-number.best refl (c.distance.ensures ∙ ap (λ (w : WiringData). distance w c.args.from.0 c.loop-number.number) c.requires.routes) c.has_room.ensures c.loop-number.invariant)

pub returns-in-Some : goal.returns-in-Some
returns-in-Some c =
    ap (option_map (λ (g : Goal). g.trap)) (sym c.in-Some.is)
    ∙ best_is c.args.machine.now (state_of c.args.plan.now) c.args.from.0 c.requires.free.0 c.loop-number.number c.loop-number.best c.traps-number-end.ensures.valid c.requires.there c.requires.free.1 (omega (arith, c.loop-number-test.false, c.loop-number.auto.number-end, c.traps-number-end.ensures.count)) c.loop-number.invariant
