use Rattle.std.proofs.Common.{refl}
use Rattle.qasm_reader.specs.Expected.{of_reset}
use Rattle.qasm_reader.proofs.Leading.{leads_exit}
use Rattle.qasm_reader.proofs.statements.reset.Goals as goal

pub returns-in_err-on-clause-leads : goal.returns-in_err-on-clause-leads
returns-in_err-on-clause-leads c = leads_exit _ _ _ _ c.from_residual.ensures.1 (c.in_err-on.ensures.leads of_reset refl refl)
