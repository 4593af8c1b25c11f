use Rattle.std.proofs.Common.{◌<◌, length}
use Rattle.qasm_reader.specs.Mentioned.{AreMentioned, AreReached, AreSeen, numbers}
use Rattle.qasm_reader.specs.Code.{ahead, known}
use Rattle.qasm_reader.proofs.barriers.mentioned.Given as goal

-- the reader stands behind the operands that mention these qubits
abbrev pub invariant-loop-after : goal.invariant-loop-after
invariant-loop-after l =
    record {
      seen : AreSeen l.marks (numbers l.qubits.items);
      reached : AreReached l.reach (numbers l.qubits.items);
      qubits : AreMentioned (known l.state) l.fn.cursor l.rest l.qubits.items;
      shorter : length (ahead l.rest) < length (ahead l.fn.cursor);
    }

-- the tokens that are left
abbrev pub decreases-loop-after : goal.decreases-loop-after
decreases-loop-after l = length (ahead l.rest)
