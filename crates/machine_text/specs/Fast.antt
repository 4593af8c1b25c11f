use Rattle.qccd_base.specs.Times.{usual}
use Rattle.qccd_machine.specs.Machine.{MachineData}
use Rattle.qccd_machine.specs.Preset.{single}

-- one trap of four ions, with gates that take no time
abbrev pub fast : MachineData
fast = record (single 4) { times = record usual { gate1 = 0; gate2 = 0 } }
