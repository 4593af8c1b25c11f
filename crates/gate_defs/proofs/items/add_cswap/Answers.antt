use Rattle.std.proofs.Common.{arith}
use Rattle.gate_defs.proofs.Fitting.{around_fits, ccx_fit}
use Rattle.gate_defs.proofs.items.add_cswap.Goals as goal

pub add_steps-requires : goal.add_steps-requires
add_steps-requires c = around_fits c.args.qubits.now c.args.cond (omega (arith, c.in-len3.len_at_least, c.in-len3.len_below)) c.requires.distinct c.requires.condition

pub add_steps-requires-in-len3 : goal.add_steps-requires-in-len3
add_steps-requires-in-len3 c = ccx_fit c.args.qubits.now c.args.cond (omega (arith, c.in-len3.len_at_least, c.in-len3.len_below)) c.requires.distinct c.requires.condition
