-- The operands so far have the number where no lesser one is there, and the others what they had.
use Rattle.std.proofs.Common.{◌≡◌, ◌==◌, ℕ, ◌<◌, min, cond, take, get_or, length}
use Rattle.std.specs.List.{list_any}
use Rattle.qccd_circuit.specs.Operands.{operands_of}
use Rattle.meaning_check.proofs.overtaking.put.Given as goal

abbrev pub invariant-loop-k : goal.invariant-loop-k
invariant-loop-k l = record {
  size : length l.rows ≡ 512;
  rows :
      (o : ℕ) → o < 512
      → get_or l.rows o 0 ≡ cond (list_any (λ n. n == o) (take l.k (operands_of l.item))) (min (get_or l.initial.rows o 0) l.number) (get_or l.initial.rows o 0);
}
