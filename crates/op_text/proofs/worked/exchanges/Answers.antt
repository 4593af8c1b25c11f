-- By computation.
use Rattle.std.proofs.Common.{refl}
use Rattle.std.specs.Fmt.{digits}
use Rattle.op_text.proofs.worked.exchanges.Goals as goal

pub returns-clause-ions : goal.returns-clause-ions
unfolding digits
returns-clause-ions c = refl

pub returns-clause-qubits : goal.returns-clause-qubits
unfolding digits
returns-clause-qubits c = refl
