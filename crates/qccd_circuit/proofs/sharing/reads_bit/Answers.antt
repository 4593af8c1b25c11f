-- The bits that a condition reads stand side by side.
use Rattle.std.proofs.Common.{arith}
use Rattle.std.proofs.lemmas.Bool.Decides.{nat_tests}
use Rattle.qccd_circuit.proofs.Ranges.{has_bit-bits_from}
use Rattle.qccd_circuit.proofs.sharing.reads_bit.Goals as goal

pub returns-then-cond-bit : goal.returns-then-cond-bit
returns-then-cond-bit c = rw c.in-Some.is (rw (has_bit-bits_from c.in-Some.cond.first.0 c.in-Some.cond.count c.args.bit) (grind (arith, nat_tests)))

pub returns-else-cond-bit : goal.returns-else-cond-bit
returns-else-cond-bit c = rw c.in-Some.is (rw (has_bit-bits_from c.in-Some.cond.first.0 c.in-Some.cond.count c.args.bit) (grind (arith, nat_tests)))
