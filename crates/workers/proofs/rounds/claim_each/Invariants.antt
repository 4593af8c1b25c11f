use Rattle.std.proofs.Common.{◌≡◌, ◌≤◌}
use Rattle.claim_board.specs.Deck.{IsEmpty, Together, view_of}
use Rattle.workers.specs.Sweep.{HasWorked}
use Rattle.workers.proofs.rounds.claim_each.Given as goal

abbrev pub invariant-loop-k : goal.invariant-loop-k
invariant-loop-k g l = record {
  together : Together l.deck l.program l.pass;
  empty : IsEmpty l.pass;
  worked : HasWorked (view_of l.fn.pass) (view_of l.pass) l.swept.done l.swept.claims;
  done : l.swept.done ≤ l.swept.claims;
  few : l.swept.claims ≤ l.most;
  count : l.swept.claims ≡ l.k-index;
}
