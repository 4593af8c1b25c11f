use Rattle.std.proofs.Common.{◌≡◌, length}
use Rattle.std.specs.Prelude.{vec_capacity}
use Rattle.claim_board.specs.Pass.{HasGiven, Sits}
use Rattle.claim_board.proofs.giving.give_all.Given as goal

abbrev pub invariant-loop-held : goal.invariant-loop-held
invariant-loop-held l = record {
  table : l.place.table_id ≡ l.fn.place.table_id;
  id : l.place.id ≡ l.fn.place.id;
  sits : Sits l.program l.place.table_id.words l.place.me.0 l.seen.items;
  room : vec_capacity l.cells ≡ vec_capacity l.fn.cells;
  given : HasGiven l.fn.place.me.0 l.place.me l.cells.items l.k (length l.cells.items);
}

abbrev pub decreases-loop-held : goal.decreases-loop-held
decreases-loop-held l = length l.cells.items
