use Rattle.std.proofs.Common.{◌≡◌, map, drop, max}
use Rattle.qccd_base.specs.Greatest.{greatest}
use Rattle.op_cells.specs.Places.{clock_at}
use Rattle.op_cells.proofs.running.start_at.Given as goal

abbrev pub invariant-loop-res : goal.invariant-loop-res
invariant-loop-res l = max l.start (greatest (map (clock_at l.machine l.cells) (drop l.res-index l.touched))) ≡ greatest (map (clock_at l.machine l.cells) l.touched)
