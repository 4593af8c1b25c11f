-- What a pass has in hand, what a claim answers, and what it leaves.
use Rattle.std.specs.Prelude.{◌≡◌, ◌⊎◌, ℕ, ◌+◌, ◌<◌, ◌≤◌, ◌*◌, ◌==◌, Bool, true, nat_lt, if◌then◌else◌, List, [], ◌∷◌, length, map, take, drop, All, Option, Some, None}
use Rattle.qccd_base.specs.declared.names.Res.{Res}
use Rattle.qccd_base.specs.Resource.{among}
use Rattle.op_table.specs.Touch.{nth}
use Rattle.op_cells.specs.declared.cells.Cell.{Cell}
use Rattle.op_cells.specs.declared.cells.Held.{Held}
use Rattle.op_cells.specs.Numbering.{index_of}
use Rattle.qccd_program.specs.CellOfRun.{IsCell}
use Rattle.qccd_program.specs.Program.{ProgramData}
use Rattle.claim_core.specs.Board.{is_there, width, flag_at}
use Rattle.claim_core.specs.Event.{touched}
use Rattle.claim_board.specs.declared.claimed.Claimed.{Claimed}
use Rattle.claim_board.specs.declared.claimed.Claimed.TheVariants.{Got, NotNow, Gone}
use Rattle.claim_board.specs.declared.view.View.{View}
use Rattle.claim_board.specs.Plays.{Knows}
use Rattle.claim_board.specs.View.{turn_in, held_in, hand_of, seen_of}

-- these are the cells of the resources, in their order, each at its turn
pub record AreCells (p : ProgramData) (turn : Res → ℕ) (rs : List Res) (held : List Held) : Type 0 where
  pub names : map (λ h. h.res) held ≡ rs
  pub cells : All (λ h. IsCell p h.res (turn h.res) h.cell) held

-- the flags of these resources are set, and no others
pub record HasFlags (p : ProgramData) (flags : List Bool) (rs : List Res) : Type 0 where
  pub long : length flags ≡ width p
  pub set : (r : Res) → flag_at p flags r ≡ among rs r

-- the slots of these resources, each empty, the last one first
abbrev pub empty_slots : ProgramData → List Res → List (ℕ × Option Cell) → List (ℕ × Option Cell)
empty_slots p [] c = c
empty_slots p (r ∷ rs) c = empty_slots p rs ((index_of p.machine r, None) ∷ c)

-- with an operation in hand the pass got all that it touches, gave nothing, and holds the slots
pub record IsWhole (v : View) (held : List (ℕ × Option Cell)) (k : ℕ) : Type 0 where
  pub there : k < length v.program.ops
  pub got : HasFlags v.program v.got (touched v.program.ops k)
  pub gave : HasFlags v.program v.gave []
  pub slots : held ≡ empty_slots v.program (touched v.program.ops k) []

-- a call leaves a pass its deck's program and workers, its number, and what it made and took in. It looks at
-- words so often at most, and lowers nothing that was seen
pub record Kept (v w : View) (most : ℕ) : Type 0 where
  pub program : w.program ≡ v.program
  pub workers : w.workers ≡ v.workers
  pub live : w.live ≡ v.live
  pub number : w.number ≡ v.number
  pub made : w.made ≡ v.made
  pub ended : w.ended ≡ v.ended
  pub long : length w.seen ≡ length v.seen
  pub looks : v.looks ≤ w.looks
  pub few : w.looks ≤ v.looks + most
  pub seen : (r : Res) → is_there v.program r ≡ true → seen_of v r ≤ seen_of w r

-- the operation was begun: it is in hand, with the cells of its resources just before it
pub record HasGot (v w : View) (k : ℕ) (held : List Held) : Type 0 where
  pub hand : w.op ≡ Some k
  pub cells : AreCells v.program (nth v.program.ops k) (touched v.program.ops k) held
  pub begun : w.begun ≡ v.begun + 1

-- nothing was begun, and the hand is empty. The word of a resource that the operation touches was read in this
-- call, with this turn, held or not, and the pass has seen it since
pub record HasRead (v w : View) (k : ℕ) (held : List Held) (r : Res) (turn : ℕ) (taken : Bool) : Type 0 where
  pub hand : w.op ≡ None
  pub cells : held ≡ []
  pub begun : w.begun ≡ v.begun
  pub touches : among (touched v.program.ops k) r ≡ true
  pub looked : v.looks < w.looks
  pub last : w.last ≡ (index_of v.program.machine r, turn, taken)
  pub seen : turn ≤ seen_of w r

-- what a claim answers. NotNow: the turn is below the operation's. Gone: it is past that, or at it and held
abbrev pub Answered : View → View → ℕ → List Held → Claimed → Type 0
Answered v w k held Got = HasGot v w k held
Answered v w k held (NotNow r turn needed) = ((taken : Bool) × HasRead v w k held r turn taken) × (needed ≡ nth v.program.ops k r) × (turn < needed)
Answered v w k held (Gone r turn taken) = HasRead v w k held r turn taken × ((nth v.program.ops k r < turn) ⊎ ((turn ≡ nth v.program.ops k r) × (taken ≡ true)))

-- why a word is not free at the turn that is needed
abbrev pub why_not : Res → ℕ → ℕ → Claimed
why_not r x needed = if nat_lt (turn_in x) needed then NotNow r (turn_in x) needed else Gone r (turn_in x) (held_in x)

-- the same, or none where the word is free at that turn
abbrev pub told : Res → ℕ → ℕ → Option Claimed
told r x needed = if x == 32 * needed then None else Some (why_not r x needed)

-- a pass that did nothing but look
pub record Looked (v w : View) (most : ℕ) : Type 0 where
  pub kept : Kept v w most
  pub hand : hand_of w ≡ hand_of v
  pub begun : w.begun ≡ v.begun

-- the seat, and the list of turns that goes with it
pub record Sits (p : ProgramData) (size : ℕ) (v : View) (turns : List ℕ) : Type 0 where
  pub words : size ≡ width p
  pub live : v.live ≡ true
  pub program : v.program ≡ p
  pub seen : v.seen ≡ turns
  pub long : length turns ≡ width p

-- a claim on its way: the first n resources were taken
pub record HasTaken (v : View) (me : Knows) (held : List Held) (k n : ℕ) : Type 0 where
  pub busy : me.0.op ≡ Some k
  pub got : HasFlags v.program me.0.got (take n (touched v.program.ops k))
  pub gave : HasFlags v.program me.0.gave []
  pub slots : me.1 ≡ empty_slots v.program (take n (touched v.program.ops k)) []
  pub cells : AreCells v.program (nth v.program.ops k) (take n (touched v.program.ops k)) held
  pub begun : me.0.begun ≡ v.begun + 1
  pub kept : Kept v me.0 0

-- the turn after the operation's
abbrev pub next_turn : ProgramData → ℕ → Res → ℕ
next_turn p k r = nth p.ops k r + 1

-- a hand on its way back: the first n resources were not given yet
pub record HasGiven (v : View) (me : Knows) (held : List Held) (k n : ℕ) : Type 0 where
  pub busy : 0 < n → me.0.op ≡ Some k
  pub empty : n ≡ 0 → me.0.op ≡ None
  pub got : HasFlags v.program me.0.got (touched v.program.ops k)
  pub gave : HasFlags v.program me.0.gave (drop n (touched v.program.ops k))
  pub slots : me.1 ≡ empty_slots v.program (take n (touched v.program.ops k)) []
  pub cells : AreCells v.program (next_turn v.program k) (take n (touched v.program.ops k)) held
  pub begun : me.0.begun ≡ v.begun
  pub kept : Kept v me.0 0
  pub seen : (r : Res) → among (drop n (touched v.program.ops k)) r ≡ true → next_turn v.program k r ≤ seen_of me.0 r
