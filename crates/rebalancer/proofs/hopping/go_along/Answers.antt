use Rattle.std.proofs.Common.{sym}
use Rattle.op_plan.specs.Plan.{with_ops}
use Rattle.rebalancer.specs.Hop.{along}
use Rattle.rebalancer.proofs.Appending.{continues_on, on_err}
use Rattle.rebalancer.proofs.Going.{numbers, one_segment}
use Rattle.rebalancer.proofs.hopping.go_along.Goals as goal

pub returns-in_err-cross-in-Some-clause-refused : goal.returns-in_err-cross-in-Some-clause-refused
returns-in_err-cross-in-Some-clause-refused c =
    on_err c.from_residual.result (continues_on c.args.plan.now c.loop-seg.plan c.cross.new.plan c.loop-seg.invariant.so_far c.in_err-cross-in-Some.ensures.refused)

pub loop-seg-preserved : goal.loop-seg-preserved
loop-seg-preserved c =
    one_segment c.args.machine.now c.args.plan.now c.loop-seg.plan c.cross.new.plan (with_ops c.args.plan.now (along c.args.machine.now (numbers c.args.path.now) c.args.from)) c.args.path.now c.loop-seg.seg-index _ c.loop-seg.at c.site-at.result c.in-Some.near c.in-Some.far
    c.loop-seg-test.true (sym c.in-Some.ensures) c.loop-seg.invariant c.in_ok-cross-in-Some.ensures.done c.site-at.ensures
