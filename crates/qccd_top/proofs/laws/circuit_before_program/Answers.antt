use Rattle.std.proofs.Common.{refl, inl, inr}
use Rattle.qccd_words.specs.Words.{AskedCheck}
use Rattle.qccd_messages.specs.Cause.{Circuit}
use Rattle.qccd_top.specs.Stage.{◌>>=◌}
use Rattle.qccd_top.proofs.laws.circuit_before_program.Goals as goal

pub returns : goal.returns
unfolding ◌>>=◌
returns c = λ words held machine circuit program text m at kind reading given there few why.
    inr (Circuit at kind, inr (AskedCheck machine circuit program, reading, inl (inr (m, given, inl (inr (text, (there, few), why))))), refl)
