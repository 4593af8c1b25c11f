use Rattle.std.proofs.Common.{◌-◌, length}
use Rattle.claim_board.specs.Deck.{view_of}
use Rattle.workers.specs.Window.{Covers}
use Rattle.workers.proofs.window.Window.fill.Given as goal

abbrev pub invariant-loop-ops : goal.invariant-loop-ops
invariant-loop-ops l = record {
  covers : Covers l.program l.kind (view_of l.pass) l.self.next l.self.ops.items;
}

abbrev pub decreases-loop-ops : goal.decreases-loop-ops
decreases-loop-ops l = length l.ops - l.self.next
