use Rattle.std.proofs.Common.{arith, ◌∙◌, ap, List, ℕ, get_or}
use Rattle.std.proofs.lemmas.Result.{on_err_weaker, on_ok_weaker}
use Rattle.rebalancer.proofs.Appending.{continues_on}
use Rattle.rebalancer.proofs.Planned.{at_the_end}
use Rattle.rebalancer.proofs.Room.{at_most_greatest}
use Rattle.rebalancer.proofs.hopping.hop_along.Goals as goal

pub to_end-requires-clause-room : goal.to_end-requires-clause-room
to_end-requires-clause-room c = omega (arith, c.requires.few, at_most_greatest c.args.machine.now.capacities c.args.from.0, ap (λ (cs : List ℕ). get_or cs c.args.from.0 0) c.requires.machine.capacities)

pub go_along-requires-clause-machine : goal.go_along-requires-clause-machine
go_along-requires-clause-machine c =
    (at_the_end c.args.machine.now c.args.plan.now c.to_end.new.plan c.args.qubit c.args.mode c.args.from c.args.path.now c.leaving_end-end.result c.requires.machine c.ops-ops.ensures.is_plan c.requires.outside c.requires.there c.requires.short c.requires.few c.requires.run c.leaving_end-end.ensures c.in_ok-to_end.ensures.done).agrees

pub go_along-requires-clause-few : goal.go_along-requires-clause-few
go_along-requires-clause-few c =
    (at_the_end c.args.machine.now c.args.plan.now c.to_end.new.plan c.args.qubit c.args.mode c.args.from c.args.path.now c.leaving_end-end.result c.requires.machine c.ops-ops.ensures.is_plan c.requires.outside c.requires.there c.requires.short c.requires.few c.requires.run c.leaving_end-end.ensures c.in_ok-to_end.ensures.done).few

pub go_along-requires-clause-run : goal.go_along-requires-clause-run
go_along-requires-clause-run c =
    (at_the_end c.args.machine.now c.args.plan.now c.to_end.new.plan c.args.qubit c.args.mode c.args.from c.args.path.now c.leaving_end-end.result c.requires.machine c.ops-ops.ensures.is_plan c.requires.outside c.requires.there c.requires.short c.requires.few c.requires.run c.leaving_end-end.ensures c.in_ok-to_end.ensures.done).run

pub returns-clause-done : goal.returns-clause-done
returns-clause-done c =
    let at = at_the_end c.args.machine.now c.args.plan.now c.to_end.new.plan c.args.qubit c.args.mode c.args.from c.args.path.now c.leaving_end-end.result c.requires.machine c.ops-ops.ensures.is_plan c.requires.outside c.requires.there c.requires.short c.requires.few c.requires.run c.leaving_end-end.ensures c.in_ok-to_end.ensures.done in
    on_ok_weaker c.go_along.result (λ is. is ∙ at.whole) c.go_along.ensures.done

pub returns-clause-refused : goal.returns-clause-refused
returns-clause-refused c =
    let at = at_the_end c.args.machine.now c.args.plan.now c.to_end.new.plan c.args.qubit c.args.mode c.args.from c.args.path.now c.leaving_end-end.result c.requires.machine c.ops-ops.ensures.is_plan c.requires.outside c.requires.there c.requires.short c.requires.few c.requires.run c.leaving_end-end.ensures c.in_ok-to_end.ensures.done in
    on_err_weaker c.go_along.result (continues_on c.args.plan.now c.to_end.new.plan c.go_along.new.plan at.so_far) c.go_along.ensures.refused
