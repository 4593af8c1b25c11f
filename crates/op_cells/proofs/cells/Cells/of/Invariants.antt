use Rattle.std.proofs.Common.{◌≡◌, ◌≤◌, ◌++◌, length, reverse, take}
use Rattle.op_cells.specs.Rested.{fresh_cells}
use Rattle.op_cells.proofs.cells.Cells.of.Given as goal

abbrev pub invariant-loop-content : goal.invariant-loop-content
invariant-loop-content l = record {
  few : length l.states.items ≤ length l.rooms.items;
  made : fresh_cells l.states.items (take (length l.states.items) l.rooms.items) ++ reverse l.list.items ≡ fresh_cells l.fn.states.items l.fn.rooms.items;
}

abbrev pub decreases-loop-content : goal.decreases-loop-content
decreases-loop-content l = length l.states.items
