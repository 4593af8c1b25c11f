use Rattle.std.proofs.Common.{◌≡◌, ◌<◌, ◌≤◌, ℕ, false, get_or, map, take, Some}
use Rattle.std.specs.Prelude.{vec_capacity}
use Rattle.std.specs.Slots.{slots_filled, slots_items, slots_len}
use Rattle.std.specs.Slots.Ownership.{Filled}
use Rattle.claim_board.specs.View.{turn_in}
use Rattle.claim_board.proofs.closing.take_out_all.Given as goal

abbrev pub invariant-loop-i : goal.invariant-loop-i
invariant-loop-i l = record {
  filled : Filled (slots_filled l.closed.slots) l.i (slots_len l.closed.slots);
  emptied : (k : ℕ) → k < l.i → get_or (slots_filled l.closed.slots) k false ≡ false;
  slots : slots_items l.closed.slots ≡ slots_items l.fn.closed.slots;
  count : slots_len l.closed.slots ≡ slots_len l.fn.closed.slots;
  words : l.closed.words ≡ l.fn.closed.words;
  taken : map Some l.cells.items ≡ take l.i (slots_items l.fn.closed.slots);
  turns : l.turns.items ≡ map turn_in (take l.i (slots_items l.fn.closed.words));
  cells_room : slots_len l.fn.closed.slots ≤ vec_capacity l.cells;
  turns_room : slots_len l.fn.closed.slots ≤ vec_capacity l.turns;
}
