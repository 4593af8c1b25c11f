use Rattle.qccd_machine.proofs.Presets.{valid_preset}
use Rattle.qccd_machine.proofs.laws.presets_valid.Goals as goal

pub returns : goal.returns
returns c = valid_preset
