use Rattle.std.proofs.Common.{◌≡◌, length}
use Rattle.qasm_reader.specs.Known.{nothing}
use Rattle.qasm_reader.specs.Expected.{between, header}
use Rattle.qasm_reader.specs.Reading.{heading}
use Rattle.qasm_reader.specs.Sound.{IsSound}
use Rattle.qasm_reader.specs.Code.{ahead, answer_from, known}
use Rattle.qasm_reader.proofs.reading.circuit_from.Given as goal

-- the answer is that behind the statements so far
abbrev pub invariant-loop-state : goal.invariant-loop-state
invariant-loop-state l =
    record {
      sound : IsSound (known l.state);
      leads : answer_from nothing (header heading) l.fn.cursor ≡ answer_from (known l.state) between l.rest;
    }

abbrev pub decreases-loop-state : goal.decreases-loop-state
decreases-loop-state l = length (ahead l.rest)
