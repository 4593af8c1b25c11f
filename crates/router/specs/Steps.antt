-- How many segments lead to a trap, at the least: what a search by rounds has found.
use Rattle.std.specs.Prelude.{◌≡◌, ℕ, ◌<◌, Bool, false, ◌&&◌, ◌==◌, if◌then◌else◌, find, Option, Some, None, is_some, slice_index_or}
use Rattle.std.specs.List.{range_with_len}
use Rattle.std.specs.Option.{option_or}
use Rattle.qccd_base.specs.Resource.{same_res}
use Rattle.qccd_base.specs.declared.names.Res.{Res}
use Rattle.qccd_machine.specs.declared.place.Place.{Place}
use Rattle.qccd_machine.specs.declared.place.Place.TheVariants.{TrapEnd, Junction}
use Rattle.qccd_machine.specs.Machine.{site}
use Rattle.router.specs.Wiring.{WiringData}
use Rattle.router.specs.Paths.{path_of}
use Rattle.router.specs.declared.steps.Steps.{Steps}

-- there is a count for the place: it is at one of 32 traps or 64 junctions
abbrev pub HasCount : Place → Type 0
HasCount (TrapEnd t e) = t.0 < 32
HasCount (Junction j) = j.0 < 64

abbrev pub steps_at : Steps → Place → Option ℕ
steps_at steps (TrapEnd t e) = slice_index_or steps.traps t.0 None
steps_at steps (Junction j) = slice_index_or steps.junctions j.0 None

abbrev pub is_at : Option ℕ → ℕ → Bool
is_at None n = false
is_at (Some k) n = k == n

-- whether so many segments, at the least, lead on to trap t from the far end of a segment: none from t itself
abbrev pub leads_on : Steps → ℕ → Place → ℕ → Bool
leads_on steps t (TrapEnd u e) left = (left == 0) && (u.0 == t)
leads_on steps t (Junction j) left = is_at (steps_at steps (Junction j)) left

-- the least number of segments of a path to trap t, where one has so many at most
abbrev pub least_steps : WiringData → ℕ → ℕ → Res → Option ℕ
least_steps w t most r = find (λ count. is_some (path_of w t count r)) (range_with_len 1 most)

abbrev pub AreLeast : WiringData → ℕ → ℕ → Steps → Type 0
AreLeast w t most steps = (p : Place) → HasCount p → steps_at steps p ≡ least_steps w t most (site p)

-- a count for the trap or the junction of one place, where there was none
abbrev pub reached : Place → ℕ → Place → Option ℕ → Option ℕ
reached place count p old = if same_res (site place) (site p) then option_or old (Some count) else old
