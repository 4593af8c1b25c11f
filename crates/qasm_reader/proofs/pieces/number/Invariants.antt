use Rattle.std.proofs.Common.{◌≡◌, ◌≤◌, drop}
use Rattle.qasm_reader.specs.Lexeme.{number, number_after}
use Rattle.qasm_reader.proofs.pieces.number.Given as goal

-- the digits that are left, behind the value so far, have the value of all
abbrev pub invariant-loop-digit : goal.invariant-loop-digit
invariant-loop-digit l =
    record {
      most : l.value ≤ 4294967295;
      rest : number_after l.value (drop l.digit-index l.digits) ≡ number l.digits;
    }
