-- The registers that names stand for are on qubits and bits that there are.
use Rattle.std.proofs.Common.{sym, ◌∙◌}
use Rattle.qasm_reader.proofs.short.qubit_register.Goals as goal

pub returns-then-eq-clause-register : goal.returns-then-eq-clause-register
returns-then-eq-clause-register c = c.requires.registers c.in_ok-piece.piece.bytes.now c.in_ok-register.register (sym c.find.ensures ∙ c.in_ok-register.was)
