use Rattle.std.proofs.Common.{refl, inl, inr}
use Rattle.qccd_words.specs.Words.{AskedExec}
use Rattle.qccd_messages.specs.Cause.{TooLarge}
use Rattle.qccd_top.specs.declared.limits.TheConstants.{PROGRAM_LIMIT}
use Rattle.qccd_top.specs.Stage.{◌>>=◌}
use Rattle.qccd_top.proofs.laws.large_program.Goals as goal

pub returns : goal.returns
unfolding ◌>>=◌
returns c = λ words held machine program text workers m reading given there large.
    inr (
      TooLarge program PROGRAM_LIMIT,
      inr (AskedExec machine program workers, reading, inl (inr (m, given, inl (inl (refl, refl, (text, there, large)))))),
      refl,
    )
