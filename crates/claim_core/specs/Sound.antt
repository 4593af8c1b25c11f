-- When a board is sound.
use Rattle.std.specs.Prelude.{◌≡◌, ◌≢◌, ◌⊎◌, ℕ, ◌<◌, ◌≤◌, Bool, true, false, List, length, Option, Some, None}
use Rattle.qccd_base.specs.declared.names.Res.{Res}
use Rattle.qccd_base.specs.Resource.{among}
use Rattle.op_table.specs.declared.kinds.OpKind.{OpKind}
use Rattle.op_table.specs.Touch.{nth, total, is_head}
use Rattle.qccd_program.specs.Program.{ProgramData}
use Rattle.claim_core.specs.Board.{BoardData, width, turn_at, holder_at, hand_at, got_at, gave_at}
use Rattle.claim_core.specs.Event.{touched}

-- what is read of a board: of a resource its turn and its holder, of a worker the operation in hand, and
-- whether it got and gave a resource
pub record Reading : Type 0 where
  pub turn : Res → ℕ
  pub holder : Res → Option ℕ
  pub hand : ℕ → Option ℕ
  pub got : ℕ → Res → Bool
  pub gave : ℕ → Res → Bool

abbrev pub read : ProgramData → BoardData → Reading
read p b = record {
  turn = turn_at p b;
  holder = holder_at p b;
  hand = λ w. (hand_at b w).op;
  got = got_at p b;
  gave = gave_at p b;
}

-- worker w has operation k in hand. It got and gave only what it touches, and it got its first resource. It
-- gave something only if it got all, and there is something that it did not give. What it got and did not
-- give it holds; what it did not get is free at the operation's turn; what it gave is past that turn
pub record HandFits (ops : List OpKind) (c : Reading) (w k : ℕ) : Type 0 where
  pub there : k < length ops
  pub got : (r : Res) → c.got w r ≡ true → among (touched ops k) r ≡ true
  pub gave : (r : Res) → c.gave w r ≡ true → among (touched ops k) r ≡ true
  pub first : (r : Res) → is_head (touched ops k) r ≡ true → c.got w r ≡ true
  pub after_all : (r q : Res) → c.gave w r ≡ true → among (touched ops k) q ≡ true → c.got w q ≡ true
  pub more : (r : Res) × (among (touched ops k) r ≡ true) × (c.gave w r ≡ false)
  pub holds : (r : Res) → c.got w r ≡ true → c.gave w r ≡ false → c.holder r ≡ Some w
  pub wanted : (r : Res) → among (touched ops k) r ≡ true → c.got w r ≡ false → (c.holder r ≡ None) × (c.turn r ≡ nth ops k r)
  pub given : (r : Res) → c.gave w r ≡ true → nth ops k r < c.turn r

-- the operation that the worker has in hand got the resource and did not give it, and the turn is its turn
pub record IsHeld (ops : List OpKind) (c : Reading) (r : Res) (w : ℕ) : Type 0 where
  pub op : ℕ
  pub hand : c.hand w ≡ Some op
  pub got : c.got w r ≡ true
  pub kept : c.gave w r ≡ false
  pub turn : c.turn r ≡ nth ops op r

-- each resource of operation k has come to the operation's turn at most; each is past it
abbrev pub Unbegun : List OpKind → Reading → ℕ → Type 0
Unbegun ops c k = (r : Res) → among (touched ops k) r ≡ true → c.turn r ≤ nth ops k r

abbrev pub Finished : List OpKind → Reading → ℕ → Type 0
Finished ops c k = (r : Res) → among (touched ops k) r ≡ true → nth ops k r < c.turn r

-- no turn is above the number of all operations that touch the resource; who holds a resource has an operation
-- in hand that got it; hands are as said above; no two workers have the same operation in hand; and an
-- operation in no hand is not begun or is finished
pub record Sound (ops : List OpKind) (c : Reading) : Type 0 where
  pub few : (r : Res) → c.turn r ≤ total ops r
  pub held : (r : Res) (w : ℕ) → c.holder r ≡ Some w → IsHeld ops c r w
  pub hands : (w k : ℕ) → c.hand w ≡ Some k → HandFits ops c w k
  pub apart : (w v k : ℕ) → c.hand w ≡ Some k → c.hand v ≡ Some k → w ≡ v
  pub rest : (k : ℕ) → k < length ops → ((w : ℕ) → c.hand w ≢ Some k) → Unbegun ops c k ⊎ Finished ops c k

-- a board of the program has a slot and flags for each of its resources, and is sound as read
pub record IsWide (p : ProgramData) (b : BoardData) : Type 0 where
  pub slots : length b.slots ≡ width p
  pub flags : (w : ℕ) → w < length b.hands → (length (hand_at b w).got ≡ width p) × (length (hand_at b w).gave ≡ width p)

pub record IsSound (p : ProgramData) (b : BoardData) : Type 0 where
  pub wide : IsWide p b
  pub sound : Sound p.ops (read p b)
