use Rattle.router.specs.Paths.{hop_path}
use Rattle.router.proofs.Tabled.{entry_more}
use Rattle.router.proofs.paths.PathsTo.of.Goals as goal

pub loop-number-preserved : goal.loop-number-preserved
loop-number-preserved c =
    entry_more (λ a. hop_path c.args.wiring.now a c.args.to.0) c.loop-number.number c.loop-number.from.items c.push.new.self.items c.in_ok-path.path c.loop-number.invariant c.in_ok-push.ensures.items c.in_ok-path.ensures
