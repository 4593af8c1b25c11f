use Rattle.std.proofs.Common.{refl, inl, inr, arith}
use Rattle.qccd_machine.specs.Preset.{at_left, at_right}
use Rattle.qccd_machine.proofs.worked.taken_ends.Goals as goal

pub returns-clause-first : goal.returns-clause-first
returns-clause-first c = ((at_right 0, at_right 1), refl, (0, (at_right 0, at_left 1), omega arith, refl, inl (inl refl)))

pub returns-clause-second : goal.returns-clause-second
returns-clause-second c = ((at_left 0, at_left 1), refl, (0, (at_right 0, at_left 1), omega arith, refl, inr (inr refl)))
