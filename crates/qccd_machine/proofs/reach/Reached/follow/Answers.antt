use Rattle.std.proofs.Common.{sym}
use Rattle.qccd_machine.proofs.Paths.{reached_first, reached_second}
use Rattle.qccd_machine.proofs.reach.Reached.follow.Goals as goal

pub returns-in-true-false-clause-reached : goal.returns-in-true-false-clause-reached
returns-in-true-false-clause-reached c = λ m s is. reached_second m s c.args.ends c.args.self.now c.mark.new.self is (sym c.in-true-false.ensures) c.mark.ensures.only

pub returns-in-false-true-clause-reached : goal.returns-in-false-true-clause-reached
returns-in-false-true-clause-reached c = λ m s is. reached_first m s c.args.ends c.args.self.now c.mark-in-false-true.new.self is (sym c.in-false-true.ensures') c.mark-in-false-true.ensures.only
