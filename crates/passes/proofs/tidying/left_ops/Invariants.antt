use Rattle.std.proofs.Common.{◌≡◌, ◌++◌, drop}
use Rattle.passes.specs.Stacks.{left_in}
use Rattle.passes.proofs.tidying.left_ops.Given as goal

abbrev pub invariant-loop-k : goal.invariant-loop-k
invariant-loop-k l = l.left.items ++ left_in (drop l.k l.gone) (drop l.k l.ops) ≡ left_in l.gone l.ops
