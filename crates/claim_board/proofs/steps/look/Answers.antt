use Rattle.claim_board.proofs.Looks.{look-allows}
use Rattle.claim_board.proofs.steps.look.Goals as goal

pub load-requires : goal.load-requires
load-requires c =
    (c.requires.table.0, c.requires.table.1, look-allows c.args.top.now.key c.args.top.now.table_id.slots c.args.place.now.id c.args.i c.args.place.now.me c.requires.res.0 c.requires.live c.requires.res.1 c.requires.res.2)
