use Rattle.std.proofs.Common.{◌≡◌, ◌≤◌}
use Rattle.std.specs.Prelude.{vec_capacity}
use Rattle.claim_board.specs.Pass.{HasTaken, Sits}
use Rattle.claim_board.proofs.taking.take_all.Given as goal

abbrev pub invariant-loop-j : goal.invariant-loop-j
invariant-loop-j l = record {
  table : l.place.table_id ≡ l.fn.place.table_id;
  id : l.place.id ≡ l.fn.place.id;
  sits : Sits l.program l.place.table_id.words l.place.me.0 l.seen.items;
  room : vec_capacity l.fn.cells ≤ vec_capacity l.cells;
  taken : HasTaken l.fn.place.me.0 l.place.me l.cells.items l.k l.j;
}
