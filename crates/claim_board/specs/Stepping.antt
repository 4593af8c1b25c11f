-- What a step of a deck is on the board that is shown.
use Rattle.std.specs.Prelude.{Option}
use Rattle.op_cells.specs.declared.cells.Cell.{Cell}
use Rattle.atomic_table.specs.Table.{State}
use Rattle.claim_core.specs.declared.event.Event.{Event}
use Rattle.claim_core.specs.Board.{BoardData}
use Rattle.claim_core.specs.Event.{Allowed, moved}
use Rattle.claim_core.specs.History.{IsBoardOf}
use Rattle.claim_board.specs.declared.view.Key.{Key}
use Rattle.claim_board.specs.declared.view.View.{View}
use Rattle.claim_board.specs.Rule.{Shown}

-- Between the two states the event happens: the first shows a board of the program's histories on which the event
-- is allowed, and the second the board to which it leads
pub record Happens (key : Key) (e : Event) (s t : State (Option Cell) View) : Type 0 where
  pub board : BoardData
  pub is : IsBoardOf key.program.value board
  pub shown : Shown key board s
  pub allowed : Allowed key.program.value board e (moved key.program.value board e)
  pub leads : Shown key (moved key.program.value board e) t

-- both states show the same board of the program's histories
pub record LeavesBoard (key : Key) (s t : State (Option Cell) View) : Type 0 where
  pub board : BoardData
  pub is : IsBoardOf key.program.value board
  pub shown : Shown key board s
  pub stays : Shown key board t
