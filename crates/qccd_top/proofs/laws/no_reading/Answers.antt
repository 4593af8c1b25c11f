use Rattle.std.proofs.Common.{refl, inl, inr}
use Rattle.qccd_messages.specs.Cause.{Words}
use Rattle.qccd_top.specs.Stage.{◌>>=◌}
use Rattle.qccd_top.proofs.laws.no_reading.Goals as goal

pub returns : goal.returns
unfolding ◌>>=◌
returns c = λ words held none. inr (Words, inl none, refl)
