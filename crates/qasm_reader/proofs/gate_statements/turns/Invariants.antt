use Rattle.std.proofs.Common.{◌≡◌, length}
use Rattle.qasm_reader.specs.Operand.{times}
use Rattle.qasm_reader.proofs.gate_statements.turns.Given as goal

-- the operands that are left have as many applications
abbrev pub invariant-loop-left : goal.invariant-loop-left
invariant-loop-left l = times l.fn.operands ≡ times l.left

abbrev pub decreases-loop-left : goal.decreases-loop-left
decreases-loop-left l = length l.left
