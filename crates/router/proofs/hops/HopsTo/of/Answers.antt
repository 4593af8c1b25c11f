use Rattle.router.specs.Tables.{hop_of}
use Rattle.router.proofs.Tabled.{entry_more}
use Rattle.router.proofs.hops.HopsTo.of.Goals as goal

pub loop-number-preserved : goal.loop-number-preserved
loop-number-preserved c =
    entry_more (hop_of c.args.wiring.now c.args.to.0) c.loop-number.number c.loop-number.from.items c.push.new.self.items c.of-hop.result c.loop-number.invariant c.in_ok-push.ensures.items c.of-hop.ensures
