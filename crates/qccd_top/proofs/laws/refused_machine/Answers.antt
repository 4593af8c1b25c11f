use Rattle.std.proofs.Common.{refl, inl, inr}
use Rattle.qccd_words.specs.Words.{OfFile, AskedRun}
use Rattle.qccd_messages.specs.Cause.{Machine}
use Rattle.qccd_top.specs.Stage.{◌>>=◌}
use Rattle.qccd_top.proofs.laws.refused_machine.Goals as goal

pub returns : goal.returns
unfolding ◌>>=◌
returns c = λ words held machine circuit text workers mode fault reading there few why.
    inr (Machine fault, inr (AskedRun (OfFile machine) circuit workers mode, reading, inl (inl (inr (text, (there, few), why)))), refl)
