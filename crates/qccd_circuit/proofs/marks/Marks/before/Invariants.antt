-- The greatest mark on the operands so far.
use Rattle.std.proofs.Common.{◌≡◌, map, take, get_or}
use Rattle.qccd_base.specs.Greatest.{greatest}
use Rattle.qccd_circuit.specs.Operands.{operands_of}
use Rattle.qccd_circuit.proofs.marks.Marks.before.Given as goal

abbrev pub invariant-loop-k : goal.invariant-loop-k
invariant-loop-k l = l.greatest ≡ greatest (map (λ o. get_or l.self-inside.rows o 0) (take l.k (operands_of l.item)))
