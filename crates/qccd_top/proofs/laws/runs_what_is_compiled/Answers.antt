use Rattle.qccd_top.proofs.Again.{same_report}
use Rattle.qccd_top.proofs.laws.runs_what_is_compiled.Goals as goal

pub returns : goal.returns
returns c = same_report
