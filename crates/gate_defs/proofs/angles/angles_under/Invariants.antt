use Rattle.std.proofs.Common.{◌≡◌, map, take, false}
use Rattle.std.specs.List.{list_any}
use Rattle.gate_defs.specs.Angles.{angle_under, is_long}
use Rattle.gate_defs.proofs.angles.angles_under.Given as goal

-- the angles so far, none of them too long
abbrev pub invariant-loop-pieces : goal.invariant-loop-pieces
invariant-loop-pieces l =
    (l.list.items ≡ map (angle_under l.args) (take l.pieces-index l.angles)) × (list_any is_long l.list.items ≡ false)
