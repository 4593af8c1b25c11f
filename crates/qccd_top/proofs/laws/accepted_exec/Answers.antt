use Rattle.std.proofs.Common.{refl, inl}
use Rattle.tracer.specs.Report.{report_text}
use Rattle.qccd_words.specs.Words.{AskedExec}
use Rattle.qccd_top.specs.Stage.{◌>>=◌}
use Rattle.qccd_top.proofs.laws.accepted_exec.Goals as goal

pub returns : goal.returns
unfolding ◌>>=◌
returns c = λ words held machine program workers m p reading given held_there.
    inl (report_text p, (AskedExec machine program workers, reading, (p, (m, given, held_there), refl)), refl)
