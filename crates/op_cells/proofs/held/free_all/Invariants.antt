use Rattle.std.proofs.Common.{◌≡◌, map, take, drop, ◌++◌}
use Rattle.op_cells.specs.Settled.{freed}
use Rattle.op_cells.proofs.held.free_all.Given as goal

abbrev pub invariant-loop-x : goal.invariant-loop-x
invariant-loop-x l = l.held ≡ map (freed l.finish) (take l.x-index l.fn.held) ++ drop l.x-index l.fn.held
