use Rattle.std.proofs.Common.{◌≡◌, ◌+◌, [], length}
use Rattle.claim_board.specs.Deck.{AreDealt, workers_of}
use Rattle.claim_board.specs.Rule.{fresh_view}
use Rattle.claim_board.proofs.dealing.passes_of.Given as goal

abbrev pub invariant-loop-number : goal.invariant-loop-number
invariant-loop-number l = record {
  table : l.first.table_id ≡ l.deck.words.shared.table_id;
  view : l.first.me ≡ (fresh_view l.program (workers_of l.deck) 0 l.number, []);
  dealt : AreDealt l.deck l.program 1 l.passes.items;
  count : length l.passes.items + 1 ≡ l.number;
}
