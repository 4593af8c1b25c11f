use Rattle.std.proofs.Common.{refl, inl, inr}
use Rattle.qccd_words.specs.Words.{AskedRun}
use Rattle.qccd_messages.specs.Cause.{Circuit}
use Rattle.qccd_top.specs.Stage.{◌>>=◌}
use Rattle.qccd_top.proofs.laws.refused_circuit.Goals as goal

pub returns : goal.returns
unfolding ◌>>=◌
returns c = λ words held machine circuit text workers mode m at kind reading given there few why.
    inr (Circuit at kind, inr (AskedRun machine circuit workers mode, reading, inl (inr (m, given, inl (inr (text, (there, few), why))))), refl)
