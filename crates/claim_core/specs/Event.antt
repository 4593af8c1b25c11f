-- What an event asks of a board, why it can't happen, and the board that it leaves.
use Rattle.std.specs.Prelude.{◌≡◌, ℕ, suc, ◌<◌, Bool, true, false, not, ◌&&◌, ◌==◌, is_none, if◌then◌else◌, List, [], ◌∷◌, ◌++◌, length, map, set, Option, Some, None, unwrap_or, slice_get}
use Rattle.std.specs.List.{list_all}
use Rattle.qccd_base.specs.declared.names.Res.{Res}
use Rattle.qccd_base.specs.FirstFailing.{first_failing}
use Rattle.qccd_base.specs.Resource.{among}
use Rattle.op_table.specs.declared.kinds.OpKind.{OpKind}
use Rattle.op_table.specs.Touch.{touches, nth}
use Rattle.op_cells.specs.Numbering.{index_of}
use Rattle.qccd_program.specs.Program.{ProgramData}
use Rattle.claim_core.specs.declared.board.Slot.{Slot}
use Rattle.claim_core.specs.declared.event.ActFault.{ActFault}
use Rattle.claim_core.specs.declared.event.ActFault.TheVariants.{NotYours, NotNow, Held, Untouched, Again, NotGot}
use Rattle.claim_core.specs.declared.event.Event.{Event}
use Rattle.claim_core.specs.declared.event.Event.TheVariants.{Begin, Reach, Give}
use Rattle.claim_core.specs.Board.{HandData, BoardData, no_flags, turn_at, holder_at, hand_at, flag_at, got_at, gave_at}

-- the resources that operation k touches, ascending
abbrev pub touches_of : Option OpKind → List Res
touches_of None = []
touches_of (Some op) = touches op

abbrev pub touched : List OpKind → ℕ → List Res
touched ops k = touches_of (slice_get ops k)

-- whether the operation is the one in hand
abbrev pub is_op : Option ℕ → ℕ → Bool
is_op None k = false
is_op (Some j) k = j == k

-- whether the resource is free at the operation's turn, and why it is not: its turn is another, or else it
-- has a holder
abbrev pub is_free : ProgramData → BoardData → ℕ → Res → Bool
is_free p b k r = (turn_at p b r == nth p.ops k r) && is_none (holder_at p b r)

abbrev pub not_free : ProgramData → BoardData → ℕ → Res → ActFault
not_free p b k r =
    if turn_at p b r == nth p.ops k r then Held r (unwrap_or (holder_at p b r) 0) else NotNow r (turn_at p b r) (nth p.ops k r)

-- what an event asks, in this order, each with what is told where it does not hold. Begin: the hand is empty,
-- and each resource is free at the operation's turn. Reach: the operation is the worker's, it touches the
-- resource, and did not get it yet. Give: the operation is the worker's, touches the resource, got all
-- of its resources, and did not give this one yet
abbrev pub asks : ProgramData → BoardData → Event → List (ActFault × Bool)
asks p b (Begin w k) =
    (NotYours w (hand_at b w).op, is_none (hand_at b w).op) ∷ map (λ q. (not_free p b k q, is_free p b k q)) (touched p.ops k)
asks p b (Reach w k r) =
    (NotYours w (hand_at b w).op, is_op (hand_at b w).op k) ∷ (Untouched r, among (touched p.ops k) r) ∷ (Again r, not (got_at p b w r)) ∷ []
asks p b (Give w k r) =
    (NotYours w (hand_at b w).op, is_op (hand_at b w).op k) ∷ (Untouched r, among (touched p.ops k) r)
    ∷ map (λ q. (NotGot q, got_at p b w q)) (touched p.ops k) ++ (Again r, not (gave_at p b w r)) ∷ []

-- why an event can't happen, or none where it can
abbrev pub fault : ProgramData → BoardData → Event → Option ActFault
fault p b e = first_failing (asks p b e)

-- the board with this slot for the resource and this hand for the worker
abbrev pub with_both : ProgramData → BoardData → Res → Slot → ℕ → HandData → BoardData
with_both p b r slot w hand = record { slots = set b.slots (index_of p.machine r) slot; hands = set b.hands w hand }

abbrev pub with_flag : ProgramData → List Bool → Res → List Bool
with_flag p flags r = set flags (index_of p.machine r) true

-- the worker holds the resource
abbrev pub held_by : ProgramData → BoardData → ℕ → Res → Slot
held_by p b w r = record { turn = turn_at p b r; holder = Some w }

-- the worker has the operation in hand, and got its first resource
abbrev pub begun : ProgramData → BoardData → ℕ → ℕ → List Res → BoardData
begun p b w k [] = b
begun p b w k (r ∷ rs) = with_both p b r (held_by p b w r) w (record { op = Some k; got = with_flag p (no_flags p) r; gave = no_flags p })

-- it got one more
abbrev pub reached : ProgramData → BoardData → ℕ → Res → BoardData
reached p b w r = with_both p b r (held_by p b w r) w (record (hand_at b w) { got = with_flag p (hand_at b w).got r })

-- it gave one, whose turn rises by 1; the hand is empty once all was given
abbrev pub left_in_hand : ProgramData → ℕ → List Bool → Option ℕ
left_in_hand p k gave = if list_all (flag_at p gave) (touched p.ops k) then None else Some k

abbrev pub given : ProgramData → BoardData → ℕ → ℕ → Res → BoardData
given p b w k r =
    let gave = with_flag p (hand_at b w).gave r in
    with_both p b r (record { turn = suc (turn_at p b r); holder = None }) w
    (record { op = left_in_hand p k gave; got = (hand_at b w).got; gave = gave })

-- the board that an event leaves
abbrev pub moved : ProgramData → BoardData → Event → BoardData
moved p b (Begin w k) = begun p b w k (touched p.ops k)
moved p b (Reach w k r) = reached p b w r
moved p b (Give w k r) = given p b w k r

-- the worker and the operation are there
abbrev pub IsEvent : ProgramData → BoardData → Event → Type 0
IsEvent p b (Begin w k) = (w < length b.hands) × (k < length p.ops)
IsEvent p b (Reach w k r) = (w < length b.hands) × (k < length p.ops)
IsEvent p b (Give w k r) = (w < length b.hands) × (k < length p.ops)

-- the event can happen on the one board, and leaves the other
pub record Allowed (p : ProgramData) (b : BoardData) (e : Event) (c : BoardData) : Type 0 where
  pub there : IsEvent p b e
  pub granted : fault p b e ≡ None
  pub leaves : c ≡ moved p b e
