-- Operations that are finished, and those that can go on.
use Rattle.std.specs.Prelude.{◌≡◌, ◌⊎◌, ℕ, ◌<◌, true, List, length, slice_get, Some, None}
use Rattle.qccd_base.specs.declared.names.Res.{Res}
use Rattle.qccd_base.specs.Resource.{among}
use Rattle.op_table.specs.Touch.{nth}
use Rattle.qccd_program.specs.Program.{ProgramData}
use Rattle.claim_core.specs.Board.{BoardData, turn_at, holder_at, hand_at}
use Rattle.claim_core.specs.declared.event.Event.{Event}
use Rattle.claim_core.specs.declared.event.Event.TheVariants.{Give}
use Rattle.claim_core.specs.Event.{touched}
use Rattle.claim_core.specs.Sound.{Finished, read}

-- the resource is free at the turn of operation k; or k holds it, which a worker has in hand; or k gave it,
-- and so the resource is past k's turn
abbrev pub IsReady : ProgramData → BoardData → ℕ → Res → Type 0
IsReady p b k r =
    ((holder_at p b r ≡ None) × (turn_at p b r ≡ nth p.ops k r)) ⊎ ((w : ℕ) × ((hand_at b w).op ≡ Some k) × (holder_at p b r ≡ Some w))
    ⊎ (nth p.ops k r < turn_at p b r)

-- each resource of operation k is ready
abbrev pub IsEnabled : ProgramData → BoardData → ℕ → Type 0
IsEnabled p b k = (r : Res) → among (touched p.ops k) r ≡ true → IsReady p b k r

-- at this place of the events a worker gives back the resource that operation k has
pub record IsGiven (es : List Event) (k : ℕ) (r : Res) : Type 0 where
  pub at : ℕ
  pub worker : ℕ
  pub event : slice_get es at ≡ Some (Give worker k r)

-- among the events the operation gives back all of its resources
abbrev pub HasGivenAll : ProgramData → List Event → ℕ → Type 0
HasGivenAll p es k = (r : Res) → among (touched p.ops k) r ≡ true → IsGiven es k r

-- each resource of the operation is past its turn: the operation has given all
abbrev pub IsFinished : ProgramData → BoardData → ℕ → Type 0
IsFinished p b k = Finished p.ops (read p b) k

-- the operation is not finished, and all before it are
pub record IsLeastUnfinished (p : ProgramData) (b : BoardData) (k : ℕ) : Type 0 where
  pub there : k < length p.ops
  pub unfinished : IsFinished p b k → ⊥
  pub before : (j : ℕ) → j < k → IsFinished p b j

abbrev pub AllFinished : ProgramData → BoardData → Type 0
AllFinished p b = (k : ℕ) → k < length p.ops → IsFinished p b k
