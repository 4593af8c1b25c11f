use Rattle.std.proofs.Common.{◌≡◌}
use Rattle.claim_board.specs.Deck.{view_of}
use Rattle.rows_deck.specs.Ready.{IsReady}
use Rattle.rows_deck.proofs.passes.sweep.Given as goal

abbrev pub invariant-loop-round : goal.invariant-loop-round
invariant-loop-round l = record {
  ready : IsReady l.deck l.program l.pass;
  number : (view_of l.pass).number ≡ (view_of l.fn.pass).number;
}
