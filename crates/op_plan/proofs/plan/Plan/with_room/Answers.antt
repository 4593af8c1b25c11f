use Rattle.op_plan.proofs.Begun.{keeps_begun, keeps_copied}
use Rattle.op_plan.proofs.plan.Plan.with_room.Goals as goal

pub invariant_of-result : goal.invariant_of-result
invariant_of-result c =
    keeps_copied c.args.machine.now c.args.qubits c.args.bits c.junctions.result c.args.chains.now c.in_ok-start.start.items c.in_ok-capacities.capacities.items c.in_ok-segments.segments.items c.in_ok-ops.ops.items c.in_ok-cells.cells c.in_ok-homes.homes.items
    c.in_ok-capacities.ensures c.junctions.ensures c.in_ok-segments.ensures c.in_ok-start.ensures c.in_ok-ops.ensures.items
    (keeps_begun c.args.machine.now c.args.qubits c.args.bits c.args.chains.now c.in_ok-cells.cells c.in_ok-homes.homes.items c.traps-traps.ensures.valid c.requires
    (c.in_ok-cells.ensures c.args.qubits c.requires) (c.in_ok-homes.ensures c.args.bits))
