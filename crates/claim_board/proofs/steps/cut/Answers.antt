use Rattle.claim_board.proofs.Cuts.{cut-splits}
use Rattle.claim_board.proofs.steps.cut.Goals as goal

pub split_seat-requires : goal.split_seat-requires
split_seat-requires c = (c.requires.table.0, c.requires.table.1, cut-splits c.args.top.now.key c.args.place.now.id c.args.place.now.me.0 c.requires.live c.requires.first c.requires.more)
