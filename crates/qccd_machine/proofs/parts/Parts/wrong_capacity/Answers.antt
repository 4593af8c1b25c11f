use Rattle.qccd_machine.specs.Fault.{data_of}
use Rattle.qccd_machine.proofs.Questions.{capacity_passed}
use Rattle.qccd_machine.proofs.parts.Parts.wrong_capacity.Goals as goal

pub loop-trap-preserved : goal.loop-trap-preserved
loop-trap-preserved c = capacity_passed (data_of c.args.self.now) c.deref-capacity-items.result.now c.loop-trap.trap c.deref-capacity-items.ensures.value
    c.if-capacity-lt-LEAST_CAPACITY.false c.if-capacity-gt-MOST_CAPACITY.false c.loop-trap.invariant
