-- What a closed deck leaves.
use Rattle.std.specs.Prelude.{◌≡◌, ◌⊎◌, ℕ, zero, suc, ◌+◌, ◌<◌, ◌≤◌, Bool, true, cond, nat_lt, List, length, get_or}
use Rattle.std.specs.List.{list_all}
use Rattle.qccd_base.specs.declared.names.Res.{Res}
use Rattle.qccd_base.specs.Resource.{among}
use Rattle.op_table.specs.declared.kinds.OpKind.{OpKind}
use Rattle.op_table.specs.Touch.{nth}
use Rattle.op_cells.specs.Numbering.{index_of}
use Rattle.qccd_program.specs.Program.{ProgramData}
use Rattle.claim_core.specs.Event.{touched}

-- each resource of the operation has come to its turn at most, or each is past it
abbrev pub NotBegun : List OpKind → (Res → ℕ) → ℕ → Type 0
NotBegun ops turn k = (r : Res) → among (touched ops k) r ≡ true → turn r ≤ nth ops k r

abbrev pub Past : List OpKind → (Res → ℕ) → ℕ → Type 0
Past ops turn k = (r : Res) → among (touched ops k) r ≡ true → nth ops k r < turn r

abbrev pub is_past : List OpKind → (Res → ℕ) → ℕ → Bool
is_past ops turn k = list_all (λ r. nat_lt (nth ops k r) (turn r)) (touched ops k)

-- 1 where the test passes, and how many numbers below n pass one
abbrev pub one_if : Bool → ℕ
one_if b = cond b 1 0

abbrev pub how_many : (ℕ → Bool) → ℕ → ℕ
how_many test zero = 0
how_many test (suc n) = how_many test n + one_if (test n)

-- the turns by the numbers of the resources
abbrev pub turn_of : ProgramData → List ℕ → Res → ℕ
turn_of p turns r = get_or turns (index_of p.machine r) 0

-- by these turns each operation is finished or not begun, and so many are finished
pub record IsAtRest (ops : List OpKind) (turn : Res → ℕ) (finished : ℕ) : Type 0 where
  pub whole : (k : ℕ) → k < length ops → NotBegun ops turn k ⊎ Past ops turn k
  pub count : how_many (is_past ops turn) (length ops) ≡ finished
