use Rattle.claim_core.proofs.Coded.{get-there}
use Rattle.claim_core.proofs.Legally.{claims-legal}
use Rattle.claim_board.proofs.reading.needed.Goals as goal

pub returns-clause-there : goal.returns-clause-there
returns-clause-there c = get-there c.args.program.now c.args.op c.args.i c.args.r (claims-legal c.args.program.now c.ops-ops.ensures.legal) c.requires.there
