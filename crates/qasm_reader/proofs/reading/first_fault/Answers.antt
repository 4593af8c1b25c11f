use Rattle.qasm_reader.proofs.LedTo.{led_to_fault}
use Rattle.qasm_reader.proofs.reading.first_fault.Goals as goal

pub returns-in-Ok : goal.returns-in-Ok
returns-in-Ok c =
    let lexed = c.in-Ok.ensures.tokens in led_to_fault c.args.text.now lexed.0 c.args.read lexed.1 c.requires.told
