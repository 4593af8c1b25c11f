-- What the code of a board relies on, and what its tests ask.
use Rattle.std.specs.Prelude.{◌≡◌, ℕ, ◌<◌, ◌≤◌, Bool, true, List, ◌∷◌, length, nat_le, nat_lt}
use Rattle.std.specs.List.{list_all}
use Rattle.qccd_base.specs.declared.names.Res.{Res}
use Rattle.qccd_base.specs.Resource.{among}
use Rattle.op_table.specs.Touch.{nth}
use Rattle.qccd_program.specs.Program.{ProgramData}
use Rattle.claim_core.specs.Board.{BoardData, is_there, turn_at}
use Rattle.claim_core.specs.Event.{touched}
use Rattle.claim_core.specs.Sound.{IsSound}

-- of a program: what an operation touches is there, it touches something, and there are not too many
pub record Claims (p : ProgramData) : Type 0 where
  pub there : (k : ℕ) (r : Res) → among (touched p.ops k) r ≡ true → is_there p r ≡ true
  pub some : (k : ℕ) → k < length p.ops → (r : Res) × (rs : List Res) × (touched p.ops k ≡ r ∷ rs)
  pub few : length p.ops ≤ 4194304

-- the program and the board suit each other
pub record Suits (p : ProgramData) (b : BoardData) : Type 0 where
  pub claims : Claims p
  pub sound : IsSound p b

-- whether operation k gave this resource, or all that it touches
abbrev pub has_passed : ProgramData → BoardData → ℕ → Res → Bool
has_passed p b k r = nat_lt (nth p.ops k r) (turn_at p b r)

abbrev pub is_finished : ProgramData → BoardData → ℕ → Bool
is_finished p b k = list_all (has_passed p b k) (touched p.ops k)

-- whether this resource, or all that it touches, have come to the turn of operation k or past it
abbrev pub has_come : ProgramData → BoardData → ℕ → Res → Bool
has_come p b k r = nat_le (nth p.ops k r) (turn_at p b r)

abbrev pub is_enabled : ProgramData → BoardData → ℕ → Bool
is_enabled p b k = list_all (has_come p b k) (touched p.ops k)
