use Rattle.std.proofs.Common.{◌≡◌, map, take}
use Rattle.qccd_base.specs.Greatest.{greatest}
use Rattle.tracer.proofs.ends.greatest_clock.Given as goal

abbrev pub invariant-loop-cell : goal.invariant-loop-cell
invariant-loop-cell l = l.most ≡ greatest (map (λ c. c.free_at) (take l.cell-index l.cells))
