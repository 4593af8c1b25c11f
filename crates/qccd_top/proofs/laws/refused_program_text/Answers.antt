use Rattle.std.proofs.Common.{refl, inl, inr}
use Rattle.qccd_words.specs.Words.{AskedExec}
use Rattle.qccd_messages.specs.Cause.{Asm}
use Rattle.qccd_top.specs.Stage.{◌>>=◌}
use Rattle.qccd_top.proofs.laws.refused_program_text.Goals as goal

pub returns : goal.returns
unfolding ◌>>=◌
returns c = λ words held machine program text workers m line kind reading given there few why.
    inr (Asm line kind, inr (AskedExec machine program workers, reading, inl (inr (m, given, inl (inr (text, (there, few), why))))), refl)
