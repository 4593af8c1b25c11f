-- The angles so far are equal.
use Rattle.std.proofs.Common.{◌≡◌, take}
use Rattle.meaning_check.proofs.items.same_angles.Given as goal

abbrev pub invariant-loop-i : goal.invariant-loop-i
invariant-loop-i l = take l.i l.a ≡ take l.i l.b
