use Rattle.std.proofs.Common.{refl, inl, inr}
use Rattle.qccd_words.specs.Words.{AskedRun}
use Rattle.qccd_messages.specs.Cause.{Read}
use Rattle.qccd_top.specs.Stage.{◌>>=◌}
use Rattle.qccd_top.proofs.laws.missing_circuit.Goals as goal

pub returns : goal.returns
unfolding ◌>>=◌
returns c = λ words held machine circuit workers mode m reading given missing.
    inr (Read circuit, inr (AskedRun machine circuit workers mode, reading, inl (inr (m, given, inl (inl (refl, missing))))), refl)
