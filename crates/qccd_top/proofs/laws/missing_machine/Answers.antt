use Rattle.std.proofs.Common.{refl, inl, inr}
use Rattle.qccd_words.specs.Words.{OfFile, AskedRun}
use Rattle.qccd_messages.specs.Cause.{Read}
use Rattle.qccd_top.specs.Stage.{◌>>=◌}
use Rattle.qccd_top.proofs.laws.missing_machine.Goals as goal

pub returns : goal.returns
unfolding ◌>>=◌
returns c = λ words held machine circuit workers mode reading missing.
    inr (Read machine, inr (AskedRun (OfFile machine) circuit workers mode, reading, inl (inl (inl (refl, missing)))), refl)
