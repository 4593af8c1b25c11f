use Rattle.claim_core.proofs.Coded.{index-there}
use Rattle.claim_core.proofs.flags.all_set.Goals as goal

pub flag-requires-clause-there : goal.flag-requires-clause-there
flag-requires-clause-there c = index-there c.args.program.now c.args.op c.loop-r.r-index c.touched_by-touched.result.now _ c.requires.claims c.touched_by-touched.ensures c.loop-r-test.true
