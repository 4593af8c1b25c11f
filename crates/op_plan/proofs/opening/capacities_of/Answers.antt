use Rattle.std.proofs.Common.{ℕ, List, [], ◌∷◌, ◌++◌, ap, ◌∙◌, arith}
use Rattle.op_plan.proofs.Begun.{taken_all, taken_next}
use Rattle.op_plan.proofs.opening.capacities_of.Goals as goal

pub loop-trap-preserved : goal.loop-trap-preserved
loop-trap-preserved c =
    c.in_ok-push.ensures.items ∙ ap (λ (xs : List ℕ). xs ++ c.capacity.result ∷ []) c.loop-trap.invariant
    ∙ taken_next c.args.machine.now.capacities c.loop-trap.trap c.capacity.result c.capacity.ensures

pub returns : goal.returns
returns c = c.loop-trap.invariant ∙ taken_all c.args.machine.now.capacities c.loop-trap.trap (omega (arith, c.loop-trap-test.false, c.traps-trap-end.ensures.count))
