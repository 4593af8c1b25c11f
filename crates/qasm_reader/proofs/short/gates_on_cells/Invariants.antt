use Rattle.std.proofs.Common.{◌≡◌, ◌≤◌, length}
use Rattle.qasm_reader.specs.Expected.{between}
use Rattle.qasm_reader.specs.Sound.{IsSound}
use Rattle.qasm_reader.specs.Code.{ahead, answer_from, known}
use Rattle.qasm_reader.proofs.short.gates_on_cells.Given as goal

-- the answer is that behind the gates so far
abbrev pub invariant-loop-behind : goal.invariant-loop-behind
invariant-loop-behind l =
    record {
      sound : IsSound (known l.state);
      shorter : length (ahead l.rest) ≤ length (ahead l.fn.cursor);
      leads : answer_from (known l.fn.state) between l.fn.cursor ≡ answer_from (known l.state) between l.rest;
    }

abbrev pub decreases-loop-behind : goal.decreases-loop-behind
decreases-loop-behind l = length (ahead l.rest)
