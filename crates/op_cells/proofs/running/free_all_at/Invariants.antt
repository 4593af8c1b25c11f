use Rattle.std.proofs.Common.{◌≡◌, map, drop}
use Rattle.op_cells.specs.Places.{adjust_all, free_from}
use Rattle.op_cells.proofs.running.free_all_at.Given as goal

abbrev pub invariant-loop-res : goal.invariant-loop-res
invariant-loop-res l =
    adjust_all l.machine (drop l.res-index l.touched) (map (λ r. free_from l.finish) (drop l.res-index l.touched)) l.cells ≡ adjust_all l.machine l.touched (map (λ r. free_from l.finish) l.touched) l.fn.cells
