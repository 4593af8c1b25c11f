-- The operands so far have the new mark, and the others what they had.
use Rattle.std.proofs.Common.{◌≡◌, ◌==◌, ℕ, ◌<◌, cond, take, get_or, length}
use Rattle.std.specs.List.{list_any}
use Rattle.qccd_circuit.specs.Operands.{operands_of}
use Rattle.qccd_circuit.proofs.marks.Marks.put.Given as goal

abbrev pub invariant-loop-k : goal.invariant-loop-k
invariant-loop-k l = record {
  size : length l.self-inside.rows ≡ 512;
  rows :
      (o : ℕ) → o < 512
      → get_or l.self-inside.rows o 0 ≡ cond (list_any (λ n. n == o) (take l.k (operands_of l.item))) l.mark (get_or l.initial.self-inside.rows o 0);
}
