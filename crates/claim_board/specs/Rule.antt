-- The rule of a deck: what its words, the cells at home and all passes show between any two steps.
use Rattle.std.specs.Prelude.{◌≡◌, ℕ, ◌<◌, ◌≤◌, Bool, true, false, cond, ◌==◌, List, [], length, map, replicate, slice_index, sum_by, Option, Some, None}
use Rattle.std.specs.List.{list_any}
use mathlib.Core.Option.{some}
use mathlib.Core.Option as maybe
use lib.ListN.{get_elem?}
use Rattle.qccd_base.specs.declared.names.Res.{Res}
use Rattle.op_cells.specs.declared.cells.Cell.{Cell}
use Rattle.op_cells.specs.Numbering.{index_of}
use Rattle.atomic_table.specs.Table.{State}
use Rattle.qccd_program.specs.CellOfRun.{IsCell}
use Rattle.qccd_program.specs.Legal.{IsLegalProgram}
use Rattle.qccd_program.specs.Program.{ProgramData}
use Rattle.claim_core.specs.declared.event.Event.{Event}
use Rattle.claim_core.specs.declared.event.Event.TheVariants.{Begin, Reach, Give}
use Rattle.claim_core.specs.Board.{BoardData, is_there, width, slot_at, turn_at, holder_at, hand_at, no_flags}
use Rattle.claim_core.specs.History.{IsHistory, board_of}
use Rattle.claim_board.specs.declared.view.Key.{Key}
use Rattle.claim_board.specs.declared.view.View.{View}
use Rattle.claim_board.specs.View.{word_of, hand_of, seen_of}

-- a live pass shows its part of the board: the program and the number of workers are the deck's, its hand is
-- that of the worker with its number, and it has seen no turn of a resource that is not reached
pub record ShowsHand (key : Key) (b : BoardData) (v : View) : Type 0 where
  pub program : v.program ≡ key.program.value
  pub workers : v.workers ≡ key.workers
  pub op : (hand_at b v.number).op ≡ v.op
  pub hand : (k : ℕ) → v.op ≡ Some k → hand_at b v.number ≡ hand_of v
  pub long : length v.seen ≡ width key.program.value
  pub seen : (r : Res) → is_there key.program.value r ≡ true → seen_of v r ≤ turn_at key.program.value b r

-- of a pass: whether it is live, its number, how many numbers it gave out, and those that ended in it
pub record Identity : Type 0 where
  pub live : Bool
  pub number : ℕ
  pub made : ℕ
  pub ended : List ℕ

abbrev pub identity : View → Identity
identity v = record { live = v.live; number = v.number; made = v.made; ended = v.ended }

-- the pass at that place is live
pub record IsLive (passes : List Identity) (j : ℕ) (a : Identity) : Type 0 where
  pub at : get_elem? passes j ≡ some a
  pub live : a.live ≡ true

-- the number stands in the list
abbrev pub stands : ℕ → List ℕ → Bool
stands n ns = list_any (λ m. m == n) ns

-- Live passes have different numbers, each below the number of workers. No live pass's number stands in an
-- `ended`, and no number stands in the `ended` of two live passes. While pass 0 is live, its `made` is above
-- every number that is live or ended
pub record Numbers (workers : ℕ) (passes : List Identity) : Type 0 where
  pub below : (i : ℕ) (a : Identity) → IsLive passes i a → a.number < workers
  pub apart : (i j : ℕ) (a b : Identity) → IsLive passes i a → IsLive passes j b → a.number ≡ b.number → i ≡ j
  pub ended : (i j : ℕ) (a b : Identity) → IsLive passes i a → IsLive passes j b → stands a.number b.ended ≡ false
  pub once : (i j n : ℕ) (a b : Identity) → IsLive passes i a → IsLive passes j b → stands n a.ended ≡ true → stands n b.ended ≡ true → i ≡ j
  pub made : (i j : ℕ) (a b : Identity) → IsLive passes i a → a.number ≡ 0 → IsLive passes j b → b.number < a.made
  pub made_ended : (i j n : ℕ) (a b : Identity) → IsLive passes i a → a.number ≡ 0 → IsLive passes j b → stands n b.ended ≡ true → n < a.made

-- how many operations a live pass began, and how many all of them
abbrev pub begun_of : View → ℕ
begun_of v = cond v.live v.begun 0

abbrev pub all_begun : List View → ℕ
all_begun vs = sum_by begun_of vs

-- how many Begins there are among the events
abbrev pub begin_of : Event → ℕ
begin_of (Begin w k) = 1
begin_of (Reach w k r) = 0
begin_of (Give w k r) = 0

abbrev pub begins_in : List Event → ℕ
begins_in es = sum_by begin_of es

-- the cell of a resource at this turn is at home
pub record IsHome (p : ProgramData) (homes : List (maybe.Option (Option Cell))) (r : Res) (n : ℕ) : Type 0 where
  pub cell : Cell
  pub home : get_elem? homes (index_of p.machine r) ≡ some (some (Some cell))
  pub is : IsCell p r n cell

-- Words and live passes show this board: each word has the turn and the holder of its resource, each live pass
-- shows its hand, and who has an operation in hand is a live pass. Where a resource is free, its cell at its
-- turn is at home
pub record Shown (key : Key) (b : BoardData) (s : State (Option Cell) View) : Type 0 where
  pub words : (r : Res) → is_there key.program.value r ≡ true → slice_index s.words (index_of key.program.value.machine r) ≡ word_of (slot_at key.program.value b r)
  pub homes : (r : Res) → is_there key.program.value r ≡ true → holder_at key.program.value b r ≡ None → IsHome key.program.value s.homes r (turn_at key.program.value b r)
  pub passes : (j : ℕ) (v : View) → get_elem? s.views j ≡ some v → v.live ≡ true → ShowsHand key b v
  pub owned : (n k : ℕ) → (hand_at b n).op ≡ Some k → (j : ℕ) × (a : Identity) × IsLive (map identity s.views) j a × (a.number ≡ n)

-- A history of the program leads to the board that is shown. Numbers are as said above, and the live passes
-- began as many operations as there are Begins in the history
pub record Ruled (key : Key) (s : State (Option Cell) View) : Type 0 where
  pub legal : IsLegalProgram key.program.value
  pub few : key.workers ≤ 16
  pub wide : length s.words ≡ width key.program.value
  pub deep : length s.homes ≡ width key.program.value
  pub events : List Event
  pub history : IsHistory key.program.value key.workers events
  pub shown : Shown key (board_of key.program.value key.workers events) s
  pub numbers : Numbers key.workers (map identity s.views)
  pub counted : begins_in events ≡ all_begun s.views

-- a pass that has done nothing
abbrev pub fresh_view : ProgramData → ℕ → ℕ → ℕ → View
fresh_view p workers number made = record {
  program = p;
  workers = workers;
  live = true;
  number = number;
  op = None;
  got = no_flags p;
  gave = no_flags p;
  begun = 0;
  made = made;
  ended = [];
  looks = 0;
  last = (0, 0, false);
  seen = replicate (width p) 0;
}

-- the view of pass 0 as a deck is dealt
abbrev pub first_view : Key → View
first_view key = fresh_view key.program.value key.workers 0 1
