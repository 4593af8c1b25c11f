use Rattle.qccd_program.proofs.Stepping.{parts-there}
use Rattle.passes.proofs.pairing.gone_ops.Goals as goal

pub sweep-requires-clause-there : goal.sweep-requires-clause-there
sweep-requires-clause-there c =
    parts-there c.args.program.now c.machine-machine.result.now c.bits-bits.result c.ops-ops.result.now c.machine-machine.ensures.value c.bits-bits.ensures c.ops-ops.ensures.value c.ops-ops.ensures.legal
