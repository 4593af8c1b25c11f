use Rattle.qasm_reader.proofs.Leading.{leads_exit_later}
use Rattle.qasm_reader.proofs.angles.angle.Goals as goal

pub returns-in_err-next-clause-leads : goal.returns-in_err-next-clause-leads
returns-in_err-next-clause-leads c = λ k call. leads_exit_later _ _ _ _ _ c.from_residual.ensures.1 (c.loop-angle_state.invariant.leads k call) (c.in_err-next.ensures.leads k call)
