use Rattle.std.proofs.Common.{sym}
use Rattle.qccd_machine.specs.Fault.{data_of}
use Rattle.qccd_machine.proofs.parts.Parts.reached.Goals as goal

pub returns : goal.returns
returns c = λ r. c.from_first_trap.ensures (data_of c.args.self.now) r (sym c.as_slice.ensures.value)
