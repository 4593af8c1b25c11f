use Rattle.router.specs.Tables.{paths_to}
use Rattle.router.proofs.Tabled.{entry_more}
use Rattle.router.proofs.routes.paths_of.Goals as goal

pub loop-number-preserved : goal.loop-number-preserved
loop-number-preserved c =
    entry_more (paths_to c.args.wiring.now) c.loop-number.number c.loop-number.paths.items c.push.new.self.items c.in_ok-to.to c.loop-number.invariant c.in_ok-push.ensures.items c.in_ok-to.ensures
