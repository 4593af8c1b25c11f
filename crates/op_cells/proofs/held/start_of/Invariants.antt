use Rattle.std.proofs.Common.{◌≡◌, map, drop, max}
use Rattle.qccd_base.specs.Greatest.{greatest}
use Rattle.op_cells.proofs.held.start_of.Given as goal

abbrev pub invariant-loop-x : goal.invariant-loop-x
invariant-loop-x l = max l.start (greatest (map (λ h. h.cell.free_at) (drop l.x-index l.held))) ≡ greatest (map (λ h. h.cell.free_at) l.held)
