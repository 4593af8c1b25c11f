-- One segment of a least path.
use Rattle.std.specs.Prelude.{◌≡◌, ℕ, ◌+◌, true, Option, Some, None, if◌then◌else◌}
use Rattle.qccd_base.specs.Resource.{same_res}
use Rattle.qccd_base.specs.declared.names.Res.{Res}
use Rattle.qccd_machine.specs.declared.place.Place.{Place}
use Rattle.qccd_machine.specs.Machine.{site}
use Rattle.router.specs.Wiring.{WiringData}
use Rattle.router.specs.Paths.{path_behind, path_of}
use Rattle.router.specs.Steps.{HasCount, leads_on}
use Rattle.router.specs.declared.steps.Steps.{Steps}

-- the far end of a segment that is gone along from a trap or a junction
abbrev pub far_along : Res → Place × Place → Option Place
far_along from ends =
    if same_res (site ends.0) from then Some ends.1 else (if same_res (site ends.1) from then Some ends.0 else None)

-- the least path of left + 1 segments begins with segment g, at whose far end so many segments lead on
pub record LeadsFrom (w : WiringData) (steps : Steps) (t left : ℕ) (from : Res) (g : ℕ) (far : Place) : Type 0 where
  pub begins : path_of w t (left + 1) from ≡ path_behind t left g (Some (far, far)) (path_of w t left)
  pub leads : leads_on steps t far left ≡ true
  pub there : HasCount far
