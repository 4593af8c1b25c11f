use Rattle.std.proofs.Common.{◌≡◌, map, drop}
use Rattle.op_cells.specs.Cold.{chilled}
use Rattle.op_cells.specs.Places.{adjust_all}
use Rattle.op_cells.proofs.cooling.cool_all_at.Given as goal

abbrev pub invariant-loop-res : goal.invariant-loop-res
invariant-loop-res l =
    adjust_all l.machine (drop l.res-index l.touched) (map (λ r. chilled) (drop l.res-index l.touched)) l.cells ≡ adjust_all l.machine l.touched (map (λ r. chilled) l.touched) l.fn.cells
