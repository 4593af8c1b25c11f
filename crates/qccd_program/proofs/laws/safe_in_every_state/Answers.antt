use Rattle.qccd_program.proofs.Runs.{bounds-kept}
use Rattle.qccd_program.proofs.laws.safe_in_every_state.Goals as goal

pub returns : goal.returns
returns c = bounds-kept
