-- What a sweep leaves of a pass, and when it ends.
use Rattle.std.specs.Prelude.{◌≡◌, ◌⊎◌, ℕ, ◌+◌, ◌*◌, ◌<◌, ◌≤◌, true, length, Some, None, slice_get}
use Rattle.qccd_base.specs.declared.names.Res.{Res}
use Rattle.qccd_base.specs.Resource.{among}
use Rattle.op_table.specs.declared.kinds.OpKind.{OpKind}
use Rattle.op_table.specs.Touch.{nth}
use Rattle.qccd_program.specs.Program.{ProgramData}
use Rattle.claim_core.specs.Board.{is_there}
use Rattle.claim_core.specs.Event.{touched}
use Rattle.claim_board.specs.declared.view.View.{View}
use Rattle.claim_board.specs.View.{seen_of}
use Rattle.workers.specs.Kind.{does}
use Rattle.workers.specs.declared.kind.WorkerKind.{WorkerKind}

-- the pass has seen operation k past: some resource of k at a greater turn than k's
pub record HasSeenPast (p : ProgramData) (v : View) (k : ℕ) : Type 0 where
  pub res : Res
  pub touches : among (touched p.ops k) res ≡ true
  pub past : nth p.ops k res < seen_of v res

-- the pass has seen each operation of the kind past
abbrev pub HasSeenAllPast : ProgramData → WorkerKind → View → Type 0
HasSeenAllPast p kind v = (k : ℕ) (op : OpKind) → slice_get p.ops k ≡ Some op → does kind op ≡ true → HasSeenPast p v k

-- The pass began so many operations and made so many claims, each of which looked at a word or began an operation.
-- It keeps its deck's program and workers, its number, and what it made and took in, and no turn that it
-- has seen falls
pub record HasWorked (v w : View) (done tried : ℕ) : Type 0 where
  pub program : w.program ≡ v.program
  pub workers : w.workers ≡ v.workers
  pub live : w.live ≡ v.live
  pub number : w.number ≡ v.number
  pub made : w.made ≡ v.made
  pub ended : w.ended ≡ v.ended
  pub seen : (r : Res) → is_there v.program r ≡ true → seen_of v r ≤ seen_of w r
  pub begun : w.begun ≡ v.begun + done
  pub claims : tried + v.looks + v.begun ≤ w.looks + w.begun

-- how many claims a sweep makes at most
abbrev pub most_claims : ProgramData → ℕ
most_claims p = 64 * (length p.ops + 16)

-- A sweep that makes at most so many claims: the hand is empty, and all claims were made or each operation of
-- the kind is past
pub record HasSwept (p : ProgramData) (kind : WorkerKind) (most : ℕ) (v w : View) (done claims : ℕ) : Type 0 where
  pub worked : HasWorked v w done claims
  pub empty : w.op ≡ None
  pub few : claims ≤ most
  pub end : (claims ≡ most) ⊎ HasSeenAllPast p kind w
