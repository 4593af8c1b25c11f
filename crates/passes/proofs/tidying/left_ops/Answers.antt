use Rattle.std.proofs.Common.{arith}
use Rattle.passes.proofs.Marking.{left_all, left_more}
use Rattle.passes.proofs.tidying.left_ops.Goals as goal

pub loop-k-preserved : goal.loop-k-preserved
loop-k-preserved c =
    left_more c.loop-k.k c.args.gone.now c.args.ops.now c.loop-k.left.items c.keep.new.left.items c.index-ops-k.result c.is_gone.result
    c.index-ops-k.is c.loop-k-test.true c.is_gone.ensures c.in_ok-keep.ensures c.loop-k.invariant

pub returns : goal.returns
returns c = left_all c.loop-k.k c.args.gone.now c.args.ops.now c.loop-k.left.items (omega (arith, c.loop-k-test.false)) c.loop-k.invariant
