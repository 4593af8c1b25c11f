use Rattle.std.proofs.Common.{refl, codes, inl}
use Rattle.meaning_check.proofs.Implementing.{same_from}
use Rattle.qccd_words.specs.Words.{AskedCheck}
use Rattle.qccd_top.specs.Stage.{◌>>=◌}
use Rattle.qccd_top.proofs.laws.accepted_check.Goals as goal

pub returns : goal.returns
unfolding ◌>>=◌
returns c = λ words held machine circuit program m d p reading given drawn loaded implements.
    let same = same_from d p m implements in
    inl (codes "same\n", (AskedCheck machine circuit program, reading, (p, (m, given, (d, drawn, (p, loaded, (tt, same, refl)))), refl)), refl)
