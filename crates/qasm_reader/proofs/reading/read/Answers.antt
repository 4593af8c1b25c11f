use Rattle.qasm_reader.proofs.LedTo.{exact_circuit, exact_refusal}
use Rattle.qasm_reader.proofs.reading.read.Goals as goal

pub returns-clause-read : goal.returns-clause-read
returns-clause-read c = exact_circuit c.one_circuit.ensures c.not_both.ensures c.args.text.now c.answer.result c.answer.ensures.circuit c.answer.ensures.fault

pub returns-clause-refused : goal.returns-clause-refused
returns-clause-refused c = exact_refusal c.one_refusal.ensures c.not_both.ensures c.args.text.now c.answer.result c.answer.ensures.circuit c.answer.ensures.fault
