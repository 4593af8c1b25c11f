use Rattle.rows_workers.proofs.Pairs.{all-both}
use Rattle.rows_workers.proofs.pair.closed.Goals as goal

pub close-requires : goal.close-requires
close-requires c = record { passes = all-both c.args.deck c.args.program.now c.args.first c.args.second c.pass.result c.pass-2.result c.in_ok-passes.passes.items c.requires c.pass.ensures.value c.pass-2.ensures.value c.in_ok-passes.ensures.items }
