use Rattle.std.proofs.Common.{◌≤◌, length, take}
use Rattle.claim_board.specs.Deck.{view_of}
use Rattle.workers.specs.Window.{Leaves}
use Rattle.workers.proofs.window.without_past.Given as goal

abbrev pub invariant-loop-k : goal.invariant-loop-k
invariant-loop-k l = record {
  leaves : Leaves l.program (view_of l.pass) (take l.k-index l.ops) l.left.items;
  few : length l.left.items ≤ l.k-index;
}
