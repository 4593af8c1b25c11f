use Rattle.workers.proofs.Windows.{there-at}
use Rattle.workers.proofs.rounds.claim_each.Goals as goal

pub do_one-requires-clause-there : goal.do_one-requires-clause-there
do_one-requires-clause-there g c κs within = there-at c.args.program.now c.args.ops.now c.loop-k.k-index 0 c.requires.there c.loop-k-test.true
