-- The bits that a condition reads are below a number where their end is not above it.
use Rattle.std.proofs.Common.{arith}
use Rattle.std.proofs.lemmas.Grind.{common_steps}
use Rattle.qccd_circuit.proofs.Ranges.{All-bits_from, end-bits_from}
use Rattle.qccd_circuit.proofs.items.cond_below.Goals as goal

pub returns-else-cond-eq0 : goal.returns-else-cond-eq0
returns-else-cond-eq0 c = (
  λ yes. rw c.in-Some.is (All-bits_from _ _ _ (grind (arith, common_steps))),
  λ all. let below = rw c.in-Some.is at all in let e = end-bits_from _ _ _ (omega arith) below in grind (arith, common_steps),
)
