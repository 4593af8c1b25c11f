use Rattle.gate_defs.proofs.Counting.{expansion_counted}
use Rattle.gate_defs.proofs.Measuring.{count_at_most}
use Rattle.gate_defs.proofs.laws.expansions_counted.Goals as goal

pub returns-clause-items : goal.returns-clause-items
returns-clause-items c = λ defs id args qubits cond are there has_body. expansion_counted are id args qubits cond there has_body

pub returns-clause-weight : goal.returns-clause-weight
returns-clause-weight c = λ defs id. count_at_most defs id
