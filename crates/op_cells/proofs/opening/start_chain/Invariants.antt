use Rattle.std.proofs.Common.{◌≡◌, map, take}
use Rattle.op_cells.specs.Opening.{start_entry}
use Rattle.op_cells.proofs.opening.start_chain.Given as goal

abbrev pub invariant-loop-ion : goal.invariant-loop-ion
invariant-loop-ion l = l.chain.items ≡ map start_entry (take l.ion-index l.fn.ions)
