use Rattle.std.proofs.Common.{◌≡◌, suc, ◌-◌, arith}
use Rattle.op_table.specs.declared.kinds.OpKind.TheVariants.{Rot}
use Rattle.op_plan.specs.Plan.{with_ops}
use Rattle.chain_reorder.specs.Reorder.{rots_down}
use Rattle.chain_reorder.proofs.Emitting.{first_runs, stepped}
use Rattle.chain_reorder.proofs.Running.{down_one}
use Rattle.chain_reorder.proofs.bring.go_down.Goals as goal

pub rotate-requires-clause-run : goal.rotate-requires-clause-run
rotate-requires-clause-run c =
    let less : c.loop-position.position ≡ suc (c.loop-position.position - 1) = omega arith in
    first_runs c.loop-position.plan (Rot c.args.trap (c.loop-position.position - 1)) (rots_down c.args.trap.0 c.loop-position.position) (rots_down c.args.trap.0 (c.loop-position.position - 1))
    (down_one c.args.trap.0 c.loop-position.position (c.loop-position.position - 1) less) c.loop-position.invariant.run

pub loop-position-preserved : goal.loop-position-preserved
loop-position-preserved c =
    let less : c.loop-position.position ≡ suc (c.loop-position.position - 1) = omega arith in
    let r = stepped c.args.machine.now c.args.plan.now c.loop-position.plan c.rotate.new.plan (with_ops c.args.plan.now (rots_down c.args.trap.0 c.args.at)) (Rot c.args.trap (c.loop-position.position - 1))
    (rots_down c.args.trap.0 c.loop-position.position) (rots_down c.args.trap.0 (c.loop-position.position - 1)) (down_one c.args.trap.0 c.loop-position.position (c.loop-position.position - 1) less)
    c.loop-position.invariant.whole c.loop-position.invariant.run c.loop-position.invariant.so_far c.loop-position.invariant.agrees c.in_ok-rotate.ensures.done in
    record { whole = r.all; run = r.run; so_far = r.so_far; agrees = r.agrees; room = omega (arith, less, r.long, c.loop-position.invariant.room) }
