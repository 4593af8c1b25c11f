use Rattle.std.proofs.Common.{sym, ◌∙◌}
use Rattle.loader.proofs.Stepping.{done_not, done_number}
use Rattle.loader.proofs.operations.is_again.Goals as goal

pub returns-in-None-clause-done : goal.returns-in-None-clause-done
returns-in-None-clause-done c = λ earlier are. done_not earlier c.args.op.now c.args.done.now (sym c.item_of.ensures ∙ c.in-None.is) are

pub returns-in_ok-insert-in-Some-clause-done : goal.returns-in_ok-insert-in-Some-clause-done
returns-in_ok-insert-in-Some-clause-done c = λ earlier are.
    done_number earlier c.args.op.now c.in-Some.number c.args.done.now c.insert.new.self (sym c.item_of.ensures ∙ c.in-Some.is) are c.in_ok-insert-in-Some.ensures.updates
