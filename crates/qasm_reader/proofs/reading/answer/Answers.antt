use Rattle.std.proofs.Common.{Ok}
use Rattle.qasm_reader.proofs.LedTo.{led_to_circuit}
use Rattle.qasm_reader.proofs.reading.answer.Goals as goal

pub returns-in-Ok-clause-circuit : goal.returns-in-Ok-clause-circuit
returns-in-Ok-clause-circuit c = led_to_circuit c.args.text.now (Ok c.in-Ok.circuit) c.in-Ok.ensures
