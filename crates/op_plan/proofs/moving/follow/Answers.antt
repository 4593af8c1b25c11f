use Rattle.std.proofs.Common.{◌∙◌, ap, Option}
use Rattle.qccd_base.specs.declared.names.Qubit.{Qubit}
use Rattle.qccd_base.specs.declared.names.TrapId.{TrapId}
use Rattle.op_plan.specs.Cold.{cold}
use Rattle.op_plan.specs.Kept.{rehomed}
use Rattle.op_plan.specs.Plan.{state_of, wired}
use Rattle.op_plan.proofs.Emitted.{keeps_next, may_next, moves_within, touches_there}
use Rattle.op_plan.proofs.moving.follow.Goals as goal

pub mover-moving-requires : goal.mover-moving-requires
mover-moving-requires c =
    let r = c.requires in
    (wired r.0, cold (state_of r.0), r.1.shows, touches_there c.args.machine.now r.0 c.args.op.now c.args.cells.now c.args.homes.now.items r.2 r.1 c.kind-kind.ensures.is_op r.4)

pub run_cold-requires : goal.run_cold-requires
run_cold-requires c = let r = c.requires in may_next c.args.machine.now r.0 c.args.op.now c.args.cells.now c.args.homes.now.items r.2 r.1 c.kind-kind.ensures.is_op r.4

pub rehome-requires : goal.rehome-requires
rehome-requires c =
    let r = c.requires in
    moves_within r.0 c.args.op.now c.args.cells.now c.args.homes.now.items c.mover-moving.result r.1
    (c.mover-moving.ensures (wired r.0) (cold (state_of r.0)) r.1.shows (touches_there c.args.machine.now r.0 c.args.op.now c.args.cells.now c.args.homes.now.items r.2 r.1 c.kind-kind.ensures.is_op r.4))

pub returns : goal.returns
returns c p keeps agrees few legal =
    let kept = c.kind-kind.ensures.is_op in
    keeps_next c.args.machine.now p c.args.op.now c.args.cells.now c.run_cold.new.cells c.args.homes.now.items c.rehome.new.homes.items agrees keeps kept c.kind-kind.ensures.item_rule few legal c.run_cold.ensures
    (c.rehome.ensures ∙ ap (λ (o : Option (Qubit × Option TrapId)). rehomed o c.args.homes.now.items)
    (c.mover-moving.ensures (wired p) (cold (state_of p)) keeps.shows (touches_there c.args.machine.now p c.args.op.now c.args.cells.now c.args.homes.now.items agrees keeps kept legal)))
