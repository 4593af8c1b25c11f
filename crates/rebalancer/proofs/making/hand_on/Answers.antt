use Rattle.std.proofs.Common.{◌≡◌, ◌∙◌, List, append-nil, ap, sym, subst, true, ℕ}
use Rattle.std.proofs.lemmas.Result.{on_ok_weaker}
use Rattle.op_plan.specs.Plan.{state_of, with_ops}
use Rattle.op_table.specs.declared.kinds.OpKind.{OpKind}
use Rattle.router.specs.Hops.{are_neighbours}
use Rattle.router.specs.Wiring.{wiring_of}
use Rattle.rebalancer.specs.Room.{pair_of}
use Rattle.rebalancer.proofs.Handing.{handed_stands, hands_it, hands_nothing}
use Rattle.rebalancer.proofs.making.hand_on.Goals as goal

pub hop-requires-clause-there : goal.hop-requires-clause-there
hop-requires-clause-there c = (handed_stands c.args.machine.now c.args.plan.now c.args.from.0 c.args.to.0 (pair_of c.args.keep) c.in-Some.qubit c.requires.machine c.ops-ops.ensures.is_plan c.requires.outside (sym c.in-Some.ensures)).1

pub hop-requires-clause-neighbour : goal.hop-requires-clause-neighbour
hop-requires-clause-neighbour c =
    subst (λ (t : ℕ). are_neighbours (wiring_of c.args.machine.now) t c.args.to.0 ≡ true)
    (sym (handed_stands c.args.machine.now c.args.plan.now c.args.from.0 c.args.to.0 (pair_of c.args.keep) c.in-Some.qubit c.requires.machine c.ops-ops.ensures.is_plan c.requires.outside (sym c.in-Some.ensures)).0) c.requires.neighbour

pub returns-in-None-clause-done : goal.returns-in-None-clause-done
returns-in-None-clause-done c =
    ap (λ (ops : List OpKind). record c.args.plan.now { ops = ops }) (sym (append-nil c.args.plan.now.ops)) ∙ ap (with_ops c.args.plan.now) (sym (hands_nothing c.args.machine.now (state_of c.args.plan.now) (pair_of c.args.keep) c.args.mode c.args.from.0 c.args.to.0 (sym c.in-None.ensures)))

pub returns-in-Some-clause-done : goal.returns-in-Some-clause-done
returns-in-Some-clause-done c =
    on_ok_weaker c.hop.result (λ is. is ∙ ap (with_ops c.args.plan.now) (sym (hands_it c.args.machine.now (state_of c.args.plan.now) (pair_of c.args.keep) c.args.mode c.args.from.0 c.args.to.0 c.in-Some.qubit (sym c.in-Some.ensures)))) c.hop.ensures.done
