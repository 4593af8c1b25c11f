use Rattle.op_plan.proofs.Stands.{seated}
use Rattle.op_plan.proofs.reading.position_in.Goals as goal

pub returns-then-entry-qubit : goal.returns-then-entry-qubit
returns-then-entry-qubit c = seated c.args.qubit c.args.chain.now c.args.seat _ c.if-seat-chain.false c.if-entry-qubit.true c.requires.once
