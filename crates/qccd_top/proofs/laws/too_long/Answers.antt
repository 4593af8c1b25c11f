use Rattle.std.proofs.Common.{length, refl, inl, inr}
use Rattle.qccd_words.specs.Words.{AskedRun}
use Rattle.qccd_messages.specs.Cause.{TooLong}
use Rattle.qccd_top.specs.Stage.{◌>>=◌}
use Rattle.qccd_top.proofs.laws.too_long.Goals as goal

pub returns : goal.returns
unfolding ◌>>=◌
returns c = λ words held machine circuit text workers mode m d done ops reading given there few reads fits is.
    inr (
      TooLong done (length d.items) ops,
      inr (AskedRun machine circuit workers mode, reading, inl (inr (m, given, inr (d, (text, (there, few), reads), (refl, fits, is))))),
      refl,
    )
