-- Behind the bits that the item writes stand those that its condition reads.
use Rattle.std.proofs.Common.{arith}
use Rattle.std.proofs.lemmas.Grind.{common_steps}
use Rattle.qccd_circuit.proofs.Reading.{operand_count, operand_read}
use Rattle.qccd_circuit.proofs.items.Item.operand.Goals as goal

pub overflow_add-result-2 : goal.overflow_add-result-2
overflow_add-result-2 c = let e = operand_count c.args.self.now c.read_bits-first.result.0 c.read_bits-first.result.1 in grind (arith, common_steps)

pub overflow_mul-result-2 : goal.overflow_mul-result-2
overflow_mul-result-2 c = let e = operand_count c.args.self.now c.read_bits-first.result.0 c.read_bits-first.result.1 in grind (arith, common_steps)

pub overflow_add-result-3 : goal.overflow_add-result-3
overflow_add-result-3 c = let e = operand_count c.args.self.now c.read_bits-first.result.0 c.read_bits-first.result.1 in grind (arith, common_steps)

pub returns : goal.returns
returns c = let e = operand_read c.args.self.now c.read_bits-first.result.0 c.read_bits-first.result.1 c.args.k in grind (arith, common_steps)
