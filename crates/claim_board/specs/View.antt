-- What a word says, and what is read of a pass.
use Rattle.std.specs.Prelude.{ℕ, ◌+◌, ◌*◌, ◌/◌, ◌%◌, Bool, nat_lt, List, [], ◌∷◌, set, get_or, max, Option, Some, None}
use Rattle.qccd_base.specs.declared.names.Res.{Res}
use Rattle.op_cells.specs.Numbering.{index_of}
use Rattle.claim_core.specs.declared.board.Slot.{Slot}
use Rattle.claim_core.specs.Board.{HandData}
use Rattle.claim_board.specs.declared.view.View.{View}

-- a word holds a turn, and a holder or none: 32 times the turn, and the holder's number and 1
abbrev pub mark_of : Option ℕ → ℕ
mark_of None = 0
mark_of (Some w) = w + 1

abbrev pub word_of : Slot → ℕ
word_of s = 32 * s.turn + mark_of s.holder

abbrev pub turn_in : ℕ → ℕ
turn_in x = x / 32

abbrev pub held_in : ℕ → Bool
held_in x = nat_lt 0 (x % 32)

-- what the pass has in hand, as a board shows it
abbrev pub hand_of : View → HandData
hand_of v = record { op = v.op; got = v.got; gave = v.gave }

-- the greatest turn of a resource that the pass has read or made
abbrev pub seen_of : View → Res → ℕ
seen_of v r = get_or v.seen (index_of v.program.machine r) 0

-- the same list, where the number i is now seen at this turn too
abbrev pub seen_also : List ℕ → ℕ → ℕ → List ℕ
seen_also seen i n = set seen i (max (get_or seen i 0) n)

-- the greater of each two
abbrev pub greater_of : List ℕ → List ℕ → List ℕ
greater_of [] ys = []
greater_of (x ∷ xs) [] = x ∷ xs
greater_of (x ∷ xs) (y ∷ ys) = max x y ∷ greater_of xs ys
