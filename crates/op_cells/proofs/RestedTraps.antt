-- A trap that is cooled, and cells that are made of contents and clocks.
use Rattle.std.proofs.Common.{◌≡◌, ℕ, zero, suc, ◌+◌, ◌<◌, ◌≤◌, List, [], ◌∷◌, ◌++◌, append_assoc, length-append, reverse, take, length, get_or, refl, sym, ◌∙◌, ap, subst, arith, Option, Some, None, option_map, slice_get}
use Rattle.std.proofs.lemmas.Bool.{false≢true}
use Rattle.std.proofs.lemmas.Option.{none-some, same_Some}
use Rattle.std.proofs.lemmas.List.{reverse-append}
use Rattle.std.proofs.Math.Seq.{take-append_seam}
use Rattle.qccd_base.specs.declared.names.TrapId.{TrapId}
use Rattle.qccd_base.specs.declared.names.Res.TheVariants as res
use Rattle.qccd_machine.specs.Machine.{MachineData}
use Rattle.op_table.specs.declared.contents.Content.{Content}
use Rattle.op_cells.specs.declared.cells.Cell.{Cell}
use Rattle.op_cells.specs.declared.cooling.CoolTimes.{CoolTimes}
use Rattle.op_cells.specs.Acted.{CellData, data_of, room_of}
use Rattle.op_cells.specs.Log.{LogData}
use Rattle.op_cells.specs.Numbering.{index_of}
use Rattle.op_cells.specs.Places.{adjust, clock_or}
use Rattle.op_cells.specs.Rested.{cool_time, fresh, fresh_cells, rested, rested_data, Rests}
use Rattle.op_cells.proofs.Adjusting.{adjust-long, adjust-other, adjust-own}
use Rattle.op_cells.proofs.InTurn.{index-same}

read_rested : (o : Option Cell) (d : CellData) → option_map data_of o ≡ Some d → (option_map data_of (option_map rested o) ≡ Some (rested_data d)) × (clock_or o ≡ d.clock)
read_rested None d e = absurd (none-some d e)
read_rested (Some c) d e = let same = same_Some (data_of c) d e in (ap (λ (x : CellData). Some (rested_data x)) same, ap (λ (x : CellData). x.clock) same)

room_kept : (cells : List Cell) (i j : ℕ) → option_map room_of (slice_get (adjust rested cells i) j) ≡ option_map room_of (slice_get cells j)
room_kept [] i j = refl
room_kept (c ∷ cells) zero zero = refl
room_kept (c ∷ cells) zero (suc j) = refl
room_kept (c ∷ cells) (suc i) zero = refl
room_kept (c ∷ cells) (suc i) (suc j) = room_kept cells i j

rests : (m : MachineData) (bits : ℕ) (t : TrapId) (times : CoolTimes) (old : List Cell) → t.0 < length m.capacities → times ≡ record { start = clock_or (slice_get old t.0); finish = clock_or (slice_get old t.0) + cool_time }
    → Rests m bits t times old (adjust rested old t.0)
rests m bits t times old there is = record {
  long = adjust-long rested old t.0;
  cooled = λ d e.
      let read = read_rested (slice_get old t.0) d e in
      (ap (option_map data_of) (adjust-own rested old t.0) ∙ read.0, is ∙ ap (λ (n : ℕ). record { start = n; finish = n + cool_time }) read.1);
  others = λ r at apart. adjust-other rested old t.0 (index_of m r) (λ e. false≢true (sym apart ∙ index-same m bits bits (res.Trap t) r there at (sym e)));
  room = λ i. room_kept old t.0 i;
}

-- where the list is written back into what held it
pub rests-kept : (m : MachineData) (bits : ℕ) (t : TrapId) (times : CoolTimes) (old slice new rest : List Cell) (n : ℕ) → slice ≡ old → length slice ≡ n → new ≡ adjust rested slice t.0 → times ≡ record { start = clock_or (slice_get slice t.0); finish = clock_or (slice_get slice t.0) + cool_time }
    → t.0 < length m.capacities → Rests m bits t times old (take n (new ++ rest))
rests-kept m bits t times old slice new rest n same long cooled is there =
    let as_long : length new ≡ n = ap (λ (cs : List Cell). length cs) cooled ∙ adjust-long rested slice t.0 ∙ long in
    let whole : take n (new ++ rest) ≡ adjust rested slice t.0 = ap (λ (i : ℕ). take i (new ++ rest)) (sym as_long) ∙ take-append_seam new rest ∙ cooled in
    subst (λ (cs : List Cell). Rests m bits t times cs (take n (new ++ rest))) same (subst (Rests m bits t times slice) (sym whole) (rests m bits t times slice there is))

-- ---- cells that are made

take_whole : (rooms : List ℕ) (n : ℕ) → length rooms ≡ n → take n rooms ≡ rooms
take_whole [] zero e = refl
take_whole [] (suc n) e = refl
take_whole (r ∷ rooms) zero e = absurd (omega (arith, e))
take_whole (r ∷ rooms) (suc n) e = ap (λ (ns : List ℕ). r ∷ ns) (take_whole rooms n (omega (arith, e)))

pub fresh-all : (states : List (Content × ℕ)) (rooms : List ℕ) → length rooms ≡ length states → fresh_cells states (take (length states) rooms) ≡ fresh_cells states rooms
fresh-all states rooms e = ap (fresh_cells states) (take_whole rooms (length states) e)

-- one more state
pub fresh-last : (states : List (Content × ℕ)) (s : Content × ℕ) (rooms : List ℕ) (d : ℕ) → length states < length rooms
    → fresh_cells (states ++ s ∷ []) (take (length (states ++ s ∷ [])) rooms) ≡ fresh_cells states (take (length states) rooms) ++ fresh s (get_or rooms (length states) d) ∷ []
fresh-last [] s [] d h = absurd (omega (arith, h))
fresh-last [] s (r ∷ rooms) d h = refl
fresh-last (q ∷ states) s [] d h = absurd (omega (arith, h))
fresh-last (q ∷ states) s (r ∷ rooms) d h = ap (λ (cs : List Cell). fresh q r ∷ cs) (fresh-last states s rooms d (omega (arith, h)))

-- a step of the loop that makes them from the last to the first
pub fresh-next : (states : List (Content × ℕ)) (rooms : List ℕ) (old new : List (Content × ℕ)) (state : Content × ℕ) (made pushed : List Cell) (room : ℕ) (log : LogData) → old ≡ new ++ state ∷ [] → length old ≤ length rooms
    → room ≡ get_or rooms (length new) room → log ≡ record { entries = []; spare = room } → pushed ≡ made ++ record { content = state.0; free_at = state.1; log = log } ∷ []
    → fresh_cells old (take (length old) rooms) ++ reverse made ≡ fresh_cells states rooms → fresh_cells new (take (length new) rooms) ++ reverse pushed ≡ fresh_cells states rooms
fresh-next states rooms old new state made pushed room log popped few at empty is before =
    let cell : Cell = record { content = state.0; free_at = state.1; log = log } in
    let front : List Cell = fresh_cells new (take (length new) rooms) in
    let long : length old ≡ length new + 1 = ap (λ (ss : List (Content × ℕ)). length ss) popped ∙ length-append new (state ∷ []) in
    let same : cell ≡ fresh state (get_or rooms (length new) room) = ap (λ (l : LogData). record { content = state.0; free_at = state.1; log = l }) empty ∙ ap (fresh state) at in
    let whole : fresh_cells old (take (length old) rooms) ≡ front ++ cell ∷ [] =
    ap (λ (ss : List (Content × ℕ)). fresh_cells ss (take (length ss) rooms)) popped ∙ fresh-last new state rooms room (omega (arith, long, few)) ∙ ap (λ (c : Cell). front ++ c ∷ []) (sym same) in
    ap (λ (cs : List Cell). front ++ reverse cs) is ∙ ap (λ (cs : List Cell). front ++ cs) (reverse-append made (cell ∷ [])) ∙ sym (append_assoc front (cell ∷ []) (reverse made))
    ∙ ap (λ (cs : List Cell). cs ++ reverse made) (sym whole) ∙ before
