use Rattle.claim_board.proofs.Joins.{merge-joins}
use Rattle.claim_board.proofs.steps.merge.Goals as goal

pub join_seat-requires : goal.join_seat-requires
join_seat-requires c = (
  c.requires.table.0,
  c.requires.table.1,
  c.requires.empty.1,
  c.requires.table.2,
  merge-joins c.args.top.now.key c.args.place.now.id c.args.place.now.me.0 c.args.other.id c.args.other.me.0 c.requires.live.0 c.requires.live.1 c.requires.empty.0,
)
