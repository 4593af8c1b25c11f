-- The condition's bits are counted as they stand side by side.
use Rattle.std.proofs.Common.{arith}
use Rattle.std.proofs.lemmas.Grind.{common_steps}
use Rattle.qccd_circuit.proofs.Reading.{operand_count}
use Rattle.qccd_circuit.proofs.items.Item.operand_count.Goals as goal

pub returns : goal.returns
returns c = let e = operand_count c.args.self.now c.read_bits-read.result.0 c.read_bits-read.result.1 in grind (arith, common_steps)
