use Rattle.std.proofs.Common.{refl, inl, inr}
use Rattle.qccd_words.specs.Words.{AskedExec}
use Rattle.qccd_messages.specs.Cause.{Load}
use Rattle.qccd_top.specs.Stage.{◌>>=◌}
use Rattle.qccd_top.proofs.laws.refused_program.Goals as goal

pub returns : goal.returns
unfolding ◌>>=◌
returns c = λ words held machine program text workers m raw fault reading given there few spells why.
    inr (Load fault, inr (AskedExec machine program workers, reading, inl (inr (m, given, inr (raw, (text, (there, few), spells), why)))), refl)
