use Rattle.std.proofs.Common.{refl, inl}
use Rattle.transport_asm.specs.ProgramText.{program_text}
use Rattle.passes.specs.Tidy.{tidied}
use Rattle.qccd_words.specs.Words.{AskedTidy}
use Rattle.qccd_top.specs.Stage.{◌>>=◌}
use Rattle.qccd_top.proofs.laws.accepted_tidy.Goals as goal

pub returns : goal.returns
unfolding ◌>>=◌
returns c = λ words held machine program m p reading given held_there.
    inl (program_text (tidied p), (AskedTidy machine program, reading, (p, (m, given, held_there), refl)), refl)
