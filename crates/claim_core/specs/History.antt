-- Histories of a program, and what they commit.
use Rattle.std.specs.Prelude.{◌≡◌, ℕ, not, if◌then◌else◌, List, [], ◌∷◌, ◌++◌, map, Option, Some, None, slice_get}
use Rattle.std.specs.List.{list_all}
use Rattle.op_table.specs.declared.kinds.OpKind.{OpKind}
use Rattle.op_table.specs.State.{State}
use Rattle.op_table.specs.Run.{after}
use Rattle.qccd_program.specs.Program.{ProgramData, opening_of}
use Rattle.claim_core.specs.declared.event.Event.{Event}
use Rattle.claim_core.specs.declared.event.Event.TheVariants.{Begin, Reach, Give}
use Rattle.claim_core.specs.Board.{BoardData, gave_at, opening_board}
use Rattle.claim_core.specs.Event.{touched, moved, Allowed}

-- each event in turn is allowed, and the board after all
abbrev pub IsHistoryFrom : ProgramData → BoardData → List Event → Type 0
IsHistoryFrom p b [] = Unit {0}
IsHistoryFrom p b (e ∷ es) = Allowed p b e (moved p b e) × IsHistoryFrom p (moved p b e) es

abbrev pub board_from : ProgramData → BoardData → List Event → BoardData
board_from p b [] = b
board_from p b (e ∷ es) = board_from p (moved p b e) es

-- an operation commits where its worker gives for the first time
abbrev pub numbered : ℕ → Option OpKind → List (ℕ × OpKind)
numbered k None = []
numbered k (Some op) = (k, op) ∷ []

abbrev pub committed : ProgramData → BoardData → Event → List (ℕ × OpKind)
committed p b (Begin w k) = []
committed p b (Reach w k r) = []
committed p b (Give w k r) = if list_all (λ q. not (gave_at p b w q)) (touched p.ops k) then numbered k (slice_get p.ops k) else []

abbrev pub commits_from : ProgramData → BoardData → List Event → List (ℕ × OpKind)
commits_from p b [] = []
commits_from p b (e ∷ es) = committed p b e ++ commits_from p (moved p b e) es

-- the same from the opening board, with so many workers: the events are a history, the board that they
-- lead to, and the committed operations, each with its number, in the order in which they commit
abbrev pub IsHistory : ProgramData → ℕ → List Event → Type 0
IsHistory p workers es = IsHistoryFrom p (opening_board p workers) es

abbrev pub board_of : ProgramData → ℕ → List Event → BoardData
board_of p workers es = board_from p (opening_board p workers) es

abbrev pub commits : ProgramData → ℕ → List Event → List (ℕ × OpKind)
commits p workers es = commits_from p (opening_board p workers) es

-- the operations of such a list, and the state after those that are committed
abbrev pub ops_of : List (ℕ × OpKind) → List OpKind
ops_of v = map (λ e. e.1) v

abbrev pub moment : ProgramData → ℕ → List Event → State
moment p workers es = after p.machine (opening_of p) (ops_of (commits p workers es))

-- some history leads to the board
pub record IsBoardOf (p : ProgramData) (b : BoardData) : Type 0 where
  pub workers : ℕ
  pub events : List Event
  pub history : IsHistory p workers events
  pub board : b ≡ board_of p workers events
