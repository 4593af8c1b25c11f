use Rattle.std.proofs.Common.{sym, ◌∙◌, ap, subst, ◌<◌}
use Rattle.std.proofs.lemmas.Result.{on_ok_weaker}
use Rattle.op_plan.specs.Plan.{state_of, with_ops}
use Rattle.router.specs.Wiring.{WiringData}
use Rattle.rebalancer.proofs.Planned.{hop_runs, path_by, path_segments, path_short, plan_safe, stands_somewhere, there_ion, trap_below}
use Rattle.rebalancer.proofs.Results.{hop_done}
use Rattle.rebalancer.proofs.hopping.hop.Goals as goal

pub unreachable-requires : goal.unreachable-requires
unreachable-requires c = stands_somewhere c.args.machine.now c.args.plan.now c.args.qubit c.requires.machine c.ops-ops.ensures.is_plan c.requires.outside c.requires.there (sym c.in-None.ensures)

pub hop_path-requires-clause-from : goal.hop_path-requires-clause-from
hop_path-requires-clause-from c =
    subst (λ (w : WiringData). c.in-Some.from.0 < w.traps) (sym c.requires.routes) (trap_below c.args.machine.now c.args.plan.now c.args.qubit c.in-Some.from _ c.requires.machine c.ops-ops.ensures.is_plan c.requires.outside c.requires.there (sym c.in-Some.ensures))

pub hop_along-requires-clause-segments : goal.hop_along-requires-clause-segments
hop_along-requires-clause-segments c =
    path_segments c.args.machine.now c.in-Some.from.0 c.args.to.0 c.in-Some-hop_path.path.now (path_by c.args.machine.now c.args.routes.now c.in-Some.from.0 c.args.to.0 _ c.requires.routes c.in-Some-hop_path.ensures)

pub hop_along-requires-clause-short : goal.hop_along-requires-clause-short
hop_along-requires-clause-short c =
    path_short c.args.machine.now c.in-Some.from.0 c.args.to.0 c.in-Some-hop_path.path.now (path_by c.args.machine.now c.args.routes.now c.in-Some.from.0 c.args.to.0 _ c.requires.routes c.in-Some-hop_path.ensures)

pub hop_along-requires-clause-run : goal.hop_along-requires-clause-run
hop_along-requires-clause-run c =
    (hop_runs c.args.machine.now c.args.plan.now c.args.qubit c.in-Some.from _ c.args.to.0 c.args.mode c.in-Some-hop_path.path.now c.traps-traps.ensures.valid c.requires.machine c.ops-ops.ensures.is_plan c.requires.outside c.requires.there c.requires.neighbour c.requires.free (sym c.in-Some.ensures)
    (path_by c.args.machine.now c.args.routes.now c.in-Some.from.0 c.args.to.0 _ c.requires.routes c.in-Some-hop_path.ensures)).0

pub returns-clause-done : goal.returns-clause-done
returns-clause-done c =
    let runs = hop_runs c.args.machine.now c.args.plan.now c.args.qubit c.in-Some.from _ c.args.to.0 c.args.mode c.in-Some-hop_path.path.now c.traps-traps.ensures.valid c.requires.machine c.ops-ops.ensures.is_plan c.requires.outside c.requires.there c.requires.neighbour c.requires.free (sym c.in-Some.ensures)
    (path_by c.args.machine.now c.args.routes.now c.in-Some.from.0 c.args.to.0 _ c.requires.routes c.in-Some-hop_path.ensures) in
    on_ok_weaker c.hop_along.result (λ is. is ∙ ap (with_ops c.args.plan.now) (sym runs.1)) c.hop_along.ensures.done

pub returns-clause-moves : goal.returns-clause-moves
returns-clause-moves c =
    (hop_done c.args.machine.now (state_of c.args.plan.now) c.args.qubit c.args.to.0 c.args.mode c.traps-traps.ensures.valid (plan_safe c.args.machine.now c.args.plan.now c.requires.machine c.ops-ops.ensures.is_plan) c.requires.outside
    (there_ion c.args.plan.now c.args.qubit c.requires.there) c.requires.neighbour c.requires.free).0

pub returns-clause-few : goal.returns-clause-few
returns-clause-few c =
    (hop_done c.args.machine.now (state_of c.args.plan.now) c.args.qubit c.args.to.0 c.args.mode c.traps-traps.ensures.valid (plan_safe c.args.machine.now c.args.plan.now c.requires.machine c.ops-ops.ensures.is_plan) c.requires.outside
    (there_ion c.args.plan.now c.args.qubit c.requires.there) c.requires.neighbour c.requires.free).1
