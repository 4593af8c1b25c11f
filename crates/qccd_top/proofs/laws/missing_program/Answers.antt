use Rattle.std.proofs.Common.{refl, inl, inr}
use Rattle.qccd_words.specs.Words.{AskedExec}
use Rattle.qccd_messages.specs.Cause.{Read}
use Rattle.qccd_top.specs.Stage.{◌>>=◌}
use Rattle.qccd_top.proofs.laws.missing_program.Goals as goal

pub returns : goal.returns
unfolding ◌>>=◌
returns c = λ words held machine program workers m reading given missing.
    inr (Read program, inr (AskedExec machine program workers, reading, inl (inr (m, given, inl (inl (refl, missing))))), refl)
