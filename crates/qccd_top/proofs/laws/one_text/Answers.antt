use Rattle.qccd_top.proofs.Single.{single-written}
use Rattle.qccd_top.proofs.laws.one_text.Goals as goal

pub returns : goal.returns
returns c = λ words held first second is also. (single-written held words).given first second is also
