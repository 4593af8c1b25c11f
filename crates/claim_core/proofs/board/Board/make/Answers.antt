use Rattle.std.proofs.Common.{◌∙◌, ap, subst, sym}
use Rattle.claim_core.specs.Event.{IsEvent, fault}
use Rattle.claim_core.proofs.Coded.{give-few}
use Rattle.claim_core.proofs.board.Board.make.Goals as goal

pub give-requires-clause-few : goal.give-requires-clause-few
give-requires-clause-few c =
    give-few c.args.program.now c.args.self.now c.in-Give.worker c.in-Give.op c.in-Give.res c.requires.suits
    (subst (IsEvent c.args.program.now c.args.self.now) c.in-Give.is c.requires.there) (sym (ap (fault c.args.program.now c.args.self.now) c.in-Give.is) ∙ c.requires.granted)
