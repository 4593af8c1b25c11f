use Rattle.std.proofs.Common.{◌≡◌, ◌≤◌, true, take}
use Rattle.qccd_base.specs.declared.names.Res.{Res}
use Rattle.qccd_base.specs.Resource.{among}
use Rattle.op_table.specs.Touch.{nth}
use Rattle.claim_core.specs.Event.{touched}
use Rattle.claim_board.specs.Pass.{Looked, Sits}
use Rattle.claim_board.specs.View.{seen_of}
use Rattle.claim_board.proofs.reading.look_at_all.Given as goal

abbrev pub invariant-loop-i : goal.invariant-loop-i
invariant-loop-i l = record {
  table : l.place.table_id ≡ l.fn.place.table_id;
  id : l.place.id ≡ l.fn.place.id;
  slots : l.place.me.1 ≡ l.fn.place.me.1;
  sits : Sits l.program l.place.table_id.words l.place.me.0 l.seen.items;
  looked : Looked l.fn.place.me.0 l.place.me.0 l.i;
  free : (r : Res) → among (take l.i (touched l.program.ops l.k)) r ≡ true → nth l.program.ops l.k r ≤ seen_of l.place.me.0 r;
}
