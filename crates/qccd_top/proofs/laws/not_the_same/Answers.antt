use Rattle.std.proofs.Common.{refl, inl, inr}
use Rattle.qccd_words.specs.Words.{AskedCheck}
use Rattle.qccd_messages.specs.Cause.{NotSame}
use Rattle.qccd_top.specs.Stage.{◌>>=◌}
use Rattle.qccd_top.proofs.laws.not_the_same.Goals as goal

pub returns : goal.returns
unfolding ◌>>=◌
returns c = λ words held machine circuit program m d p verdict reading given drawn loaded is other.
    inr (
      NotSame verdict,
      inr (AskedCheck machine circuit program, reading, inl (inr (m, given, inr (d, drawn, inr (p, loaded, inl (is, other)))))),
      refl,
    )
