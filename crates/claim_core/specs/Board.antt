-- A board of claims: which turn each resource has come to, who holds it, and what each worker has in hand.
use Rattle.std.specs.Prelude.{ℕ, Bool, false, ◌&&◌, nat_lt, if◌then◌else◌, List, [], length, replicate, Option, None, get_or}
use Rattle.qccd_base.specs.declared.names.Res.{Res}
use Rattle.qccd_base.specs.declared.names.Res.TheVariants as res
use Rattle.op_cells.specs.Numbering.{count_of, index_of}
use Rattle.qccd_program.specs.Program.{ProgramData}
use Rattle.claim_core.specs.declared.board.Slot.{Slot}

-- what a worker has in hand: perhaps an operation, and which resources it got and which it gave, by their
-- numbers
pub record HandData : Type 0 where
  pub op : Option ℕ
  pub got : List Bool
  pub gave : List Bool

-- a turn and perhaps a holder for each resource, and a hand for each worker
pub record BoardData : Type 0 where
  pub slots : List Slot
  pub hands : List HandData

-- whether the resource is one of the program's
abbrev pub is_there : ProgramData → Res → Bool
is_there p (res.Trap t) = nat_lt t.0 (length p.machine.capacities)
is_there p (res.Seg g) = nat_lt g.0 (length p.machine.segments)
is_there p (res.Junc j) = nat_lt j.0 p.machine.junctions
is_there p (res.Bit b) = nat_lt b.0 p.bits

-- how many resources the program has
abbrev pub width : ProgramData → ℕ
width p = count_of p.machine p.bits

-- at turn 0, with no holder
abbrev pub free_slot : Slot
free_slot = record { turn = 0; holder = None }

-- the slot of a resource, its turn, and its holder
abbrev pub slot_at : ProgramData → BoardData → Res → Slot
slot_at p b r = if is_there p r then get_or b.slots (index_of p.machine r) free_slot else free_slot

abbrev pub turn_at : ProgramData → BoardData → Res → ℕ
turn_at p b r = (slot_at p b r).turn

abbrev pub holder_at : ProgramData → BoardData → Res → Option ℕ
holder_at p b r = (slot_at p b r).holder

-- the hand of a worker, and whether it got the resource, or gave it
abbrev pub idle : HandData
idle = record { op = None; got = []; gave = [] }

abbrev pub hand_at : BoardData → ℕ → HandData
hand_at b w = get_or b.hands w idle

abbrev pub flag_at : ProgramData → List Bool → Res → Bool
flag_at p flags r = is_there p r && get_or flags (index_of p.machine r) false

abbrev pub got_at : ProgramData → BoardData → ℕ → Res → Bool
got_at p b w r = flag_at p (hand_at b w).got r

abbrev pub gave_at : ProgramData → BoardData → ℕ → Res → Bool
gave_at p b w r = flag_at p (hand_at b w).gave r

-- all turns are 0, nothing is held, and all hands are empty
abbrev pub no_flags : ProgramData → List Bool
no_flags p = replicate (width p) false

abbrev pub empty_hand : ProgramData → HandData
empty_hand p = record { op = None; got = no_flags p; gave = no_flags p }

abbrev pub opening_board : ProgramData → ℕ → BoardData
opening_board p workers = record { slots = replicate (width p) free_slot; hands = replicate workers (empty_hand p) }
