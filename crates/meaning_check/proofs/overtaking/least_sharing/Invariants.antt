-- The least number on the operands so far.
use Rattle.std.proofs.Common.{◌≡◌, map, take, get_or}
use Rattle.qccd_circuit.specs.Operands.{operands_of}
use Rattle.meaning_check.specs.Least.{least}
use Rattle.meaning_check.proofs.overtaking.least_sharing.Given as goal

abbrev pub invariant-loop-k : goal.invariant-loop-k
invariant-loop-k l = l.least ≡ least (map (λ o. get_or l.rows o 0) (take l.k (operands_of l.item)))
