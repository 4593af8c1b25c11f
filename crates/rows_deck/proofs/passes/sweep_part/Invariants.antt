use Rattle.std.proofs.Common.{◌≡◌}
use Rattle.claim_board.specs.Deck.{view_of}
use Rattle.rows_deck.specs.Ready.{IsReady}
use Rattle.rows_deck.proofs.passes.sweep_part.Given as goal

abbrev pub invariant-loop-k : goal.invariant-loop-k
invariant-loop-k l = record {
  ready : IsReady l.deck l.program l.pass;
  number : (view_of l.pass).number ≡ (view_of l.fn.pass).number;
}
