use Rattle.qasm_reader.specs.Expected.{call}
use Rattle.qasm_reader.specs.Named.{shape}
use Rattle.qasm_reader.proofs.Leading.{leads_exit_later}
use Rattle.qasm_reader.proofs.angle_lists.gate_angles.Goals as goal

pub returns-in_err-angles-in-Some-clause-leads : goal.returns-in_err-angles-in-Some-clause-leads
returns-in_err-angles-in-Some-clause-leads c = λ k.
    leads_exit_later _ _ _ _ _ c.from_residual.ensures.1 (c.in-Some.ensures.found k (call (shape c.args.gate.now))) (c.in_err-angles-in-Some.ensures.leads k)
