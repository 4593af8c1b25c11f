use Rattle.qccd_machine.specs.declared.place.Preset.TheVariants.{L6, G2x3, Single}
use Rattle.qccd_machine.proofs.Presets.{valid_preset}
use Rattle.qccd_machine.proofs.preset.preset_machine.Goals as goal

pub machine_of-requires : goal.machine_of-requires
machine_of-requires c = valid_preset L6 c.args.capacity c.requires.least c.requires.most

pub machine_of-requires-in-G2x3 : goal.machine_of-requires-in-G2x3
machine_of-requires-in-G2x3 c = valid_preset G2x3 c.args.capacity c.requires.least c.requires.most

pub machine_of-requires-in-Single : goal.machine_of-requires-in-Single
machine_of-requires-in-Single c = valid_preset Single c.args.capacity c.requires.least c.requires.most
