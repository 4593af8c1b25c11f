use Rattle.std.proofs.Common.{◌-◌, ◌≤◌}
use Rattle.claim_board.specs.Deck.{IsEmpty, Together, view_of}
use Rattle.workers.specs.Sweep.{HasWorked}
use Rattle.workers.specs.Window.{Covers}
use Rattle.workers.proofs.rounds.make_rounds.Given as goal

abbrev pub invariant-loop-swept : goal.invariant-loop-swept
invariant-loop-swept g l = record {
  together : Together l.deck l.program l.pass;
  empty : IsEmpty l.pass;
  worked : HasWorked (view_of l.fn.pass) (view_of l.pass) l.swept.done l.swept.claims;
  done : l.swept.done ≤ l.swept.claims;
  few : l.swept.claims ≤ l.most;
  covers : Covers l.program l.kind (view_of l.pass) l.window.next l.window.ops.items;
}

abbrev pub decreases-loop-swept : goal.decreases-loop-swept
decreases-loop-swept g l = l.most - l.swept.claims
