use Rattle.rows_deck.proofs.Readied.{all-ready}
use Rattle.rows_deck.proofs.passes.closed.Goals as goal

pub close-requires : goal.close-requires
close-requires c = record { passes = all-ready c.args.deck c.args.program.now c.args.passes.items c.requires }
