use Rattle.qasm_reader.specs.Known.{with_include}
use Rattle.qasm_reader.specs.Code.{known}
use Rattle.qasm_reader.proofs.Leading.{leads_exit, leads_exit_later}
use Rattle.qasm_reader.proofs.statements.include.Goals as goal

pub returns-in_err-rest-clause-leads : goal.returns-in_err-rest-clause-leads
returns-in_err-rest-clause-leads c = leads_exit _ _ _ _ c.from_residual.ensures.1 (c.in_err-rest.ensures.leads (known c.args.state.now))

pub returns-in_err-rest-2-clause-leads : goal.returns-in_err-rest-2-clause-leads
returns-in_err-rest-2-clause-leads c =
    let k = known c.args.state.now in
    leads_exit_later _ _ _ _ _ c.from_residual-in_err-rest-2.ensures.1 (c.in_ok-rest.ensures.leads k) (c.in_err-rest-2.ensures.leads k (with_include k))

pub returns-clause-sound : goal.returns-clause-sound
returns-clause-sound c = record { circuit = c.requires.circuit; registers = c.requires.registers }
