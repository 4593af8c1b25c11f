-- Where no `(` follows, the operands of the gate begin.
use Rattle.std.proofs.Common.{length}
use Rattle.qasm_reader.specs.Code.{ahead}
use Rattle.qasm_reader.proofs.AcceptsGates.{bare_read}
use Rattle.qasm_reader.proofs.angle_lists.open_paren.Goals as goal

pub returns-in-None-clause-none : goal.returns-in-None-clause-none
returns-in-None-clause-none c = λ k call.
    let cursor = c.args.cursor.now in bare_read (length cursor.text.now) k call (ahead cursor) c.in-None.ensures.none
