use Rattle.std.proofs.Common.{refl, inl, inr}
use Rattle.qccd_words.specs.Words.{OfFile, AskedRun}
use Rattle.qccd_messages.specs.Cause.{TooLarge}
use Rattle.qccd_top.specs.declared.limits.TheConstants.{MACHINE_LIMIT}
use Rattle.qccd_top.specs.Stage.{◌>>=◌}
use Rattle.qccd_top.proofs.laws.large_machine.Goals as goal

pub returns : goal.returns
unfolding ◌>>=◌
returns c = λ words held machine circuit text workers mode reading there large.
    inr (TooLarge machine MACHINE_LIMIT, inr (AskedRun (OfFile machine) circuit workers mode, reading, inl (inl (inl (refl, refl, (text, there, large))))), refl)
