use Rattle.std.proofs.Common.{refl, inl, inr}
use Rattle.qccd_words.specs.Words.{AskedRun}
use Rattle.qccd_messages.specs.Cause.{TooLarge}
use Rattle.qccd_top.specs.declared.limits.TheConstants.{CIRCUIT_LIMIT}
use Rattle.qccd_top.specs.Stage.{◌>>=◌}
use Rattle.qccd_top.proofs.laws.large_circuit.Goals as goal

pub returns : goal.returns
unfolding ◌>>=◌
returns c = λ words held machine circuit text workers mode m reading given there large.
    inr (TooLarge circuit CIRCUIT_LIMIT, inr (AskedRun machine circuit workers mode, reading, inl (inr (m, given, inl (inl (refl, refl, (text, there, large)))))), refl)
