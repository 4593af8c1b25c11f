-- The bit of this step is not used, so those after it decide.
use Rattle.std.proofs.Common.{◌+◌, ◌-◌, arith}
use Rattle.qccd_circuit.proofs.Ranges.{bits_from-next}
use Rattle.qccd_circuit.proofs.sharing.share_from.Goals as goal

pub loop-step-preserved : goal.loop-step-preserved
loop-step-preserved c =
    let next = bits_from-next (c.args.first.0 + c.loop-step.step) (c.args.count - c.loop-step.step) (c.args.count - (c.loop-step.step + 1)) (omega arith) in
    grind (arith, next)
