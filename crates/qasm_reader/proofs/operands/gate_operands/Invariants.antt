use Rattle.std.proofs.Common.{◌≡◌, ℕ, ◌<◌, [], All, List, false, length}
use Rattle.gate_defs.specs.Gates.{Gate}
use Rattle.qasm_reader.specs.Expected.{operand, behind_operand, of_gate}
use Rattle.qasm_reader.specs.Sound.{AreApart, LiesBelow}
use Rattle.qasm_reader.specs.Code.{ahead, answer_from, known}
use Rattle.qasm_reader.proofs.operands.gate_operands.Given as goal

-- the answer is that behind the operands so far
abbrev pub invariant-loop-after : goal.invariant-loop-after
invariant-loop-after l =
    record {
      apart : AreApart l.operands.items;
      below : All (LiesBelow l.state.qubits) l.operands.items;
      shorter : length (ahead l.rest) < length (ahead l.fn.cursor);
      leads : (g : Gate) (angles : List (List ℕ))
          → answer_from (known l.state) (operand (of_gate (record { gate = g; angles = angles; missing = l.lacking; operands = [] }))) l.fn.cursor
          ≡ answer_from (known l.state) (behind_operand (of_gate (record { gate = g; angles = angles; missing = false; operands = l.operands.items }))) l.rest;
    }

-- the tokens that are left
abbrev pub decreases-loop-after : goal.decreases-loop-after
decreases-loop-after l = length (ahead l.rest)
