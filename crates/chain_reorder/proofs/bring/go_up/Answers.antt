use Rattle.std.proofs.Common.{◌≡◌, suc, ◌-◌, ◌+◌, arith}
use Rattle.op_table.specs.declared.kinds.OpKind.TheVariants.{Rot}
use Rattle.op_plan.specs.Plan.{with_ops}
use Rattle.chain_reorder.specs.Reorder.{rots_up}
use Rattle.chain_reorder.proofs.Emitting.{first_runs, stepped}
use Rattle.chain_reorder.proofs.Running.{up_one}
use Rattle.chain_reorder.proofs.bring.go_up.Goals as goal

pub rotate-requires-clause-run : goal.rotate-requires-clause-run
rotate-requires-clause-run c =
    let t = c.args.trap.0 in
    let p = c.loop-position.position in
    let less : c.args.last - p ≡ suc (c.args.last - (p + 1)) = omega (arith, c.loop-position-test.true) in
    first_runs c.loop-position.plan (Rot c.args.trap p) (rots_up t p (c.args.last - p)) (rots_up t (p + 1) (c.args.last - (p + 1))) (up_one t p (c.args.last - p) (c.args.last - (p + 1)) less) c.loop-position.invariant.run

pub loop-position-preserved : goal.loop-position-preserved
loop-position-preserved c =
    let t = c.args.trap.0 in
    let p = c.loop-position.position in
    let less : c.args.last - p ≡ suc (c.args.last - (p + 1)) = omega (arith, c.loop-position-test.true) in
    let r = stepped c.args.machine.now c.args.plan.now c.loop-position.plan c.rotate.new.plan (with_ops c.args.plan.now (rots_up t c.args.at (c.args.last - c.args.at))) (Rot c.args.trap p)
    (rots_up t p (c.args.last - p)) (rots_up t (p + 1) (c.args.last - (p + 1))) (up_one t p (c.args.last - p) (c.args.last - (p + 1)) less)
    c.loop-position.invariant.whole c.loop-position.invariant.run c.loop-position.invariant.so_far c.loop-position.invariant.agrees c.in_ok-rotate.ensures.done in
    record { whole = r.all; run = r.run; so_far = r.so_far; agrees = r.agrees; room = omega (arith, less, r.long, c.loop-position.invariant.room) }
