-- The copies so far are of the angles so far.
use Rattle.std.proofs.Common.{◌≡◌, take}
use Rattle.qccd_circuit.proofs.texts.copies.Given as goal

abbrev pub invariant-loop-angle : goal.invariant-loop-angle
invariant-loop-angle l = l.copies.items ≡ take l.angle-index l.angles
