use Rattle.std.proofs.Common.{◌∙◌, ap, ap₂, length, List, nat_lt, sym}
use Rattle.std.proofs.lemmas.Option.{get_or_from_slice_get}
use Rattle.op_plan.specs.Plan.{state_of}
use Rattle.op_table.specs.declared.contents.Entry.{Entry}
use Rattle.op_table.proofs.Chains.{length-chain}
use Rattle.rebalancer.proofs.Planned.{plan_safe}
use Rattle.rebalancer.proofs.making.has_room.Goals as goal

pub returns : goal.returns
returns c =
    ap₂ nat_lt (ap (λ (xs : List Entry). length xs) c.chain.ensures ∙ length-chain c.args.machine.now (state_of c.args.plan.now) c.args.trap.0 (plan_safe c.args.machine.now c.args.plan.now c.requires.machine c.ops-ops.ensures.is_plan))
    (c.from.ensures ∙ sym (get_or_from_slice_get c.args.machine.now.capacities c.args.trap.0 c.capacity.result 0 c.capacity.ensures))
