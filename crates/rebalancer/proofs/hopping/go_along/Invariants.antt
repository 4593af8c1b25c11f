use Rattle.std.proofs.Common.{◌-◌, ◌*◌, drop, length}
use Rattle.op_plan.specs.Plan.{with_ops}
use Rattle.rebalancer.specs.Hop.{along}
use Rattle.rebalancer.proofs.Going.{Left, numbers}
use Rattle.rebalancer.proofs.hopping.go_along.Given as goal

-- the segments that are left, from where the qubit is
abbrev pub invariant-loop-seg : goal.invariant-loop-seg
invariant-loop-seg l =
    Left l.machine l.fn.plan l.plan (with_ops l.fn.plan (along l.machine (numbers l.path) l.fn.from)) (along l.machine (numbers (drop l.seg-index l.path)) l.at) (3 * (length l.path - l.seg-index))
