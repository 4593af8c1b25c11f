-- The registers that names stand for are on qubits and bits that there are.
use Rattle.std.proofs.Common.{sym, ◌∙◌}
use Rattle.qasm_reader.proofs.operand.operand_name.Goals as goal

pub returns-else-lacking-clause-register : goal.returns-else-lacking-clause-register
returns-else-lacking-clause-register c = c.requires.registers c.in-Some.piece.bytes.now c.in-Some-find.register (sym c.find.ensures ∙ c.in-Some-find.is)
