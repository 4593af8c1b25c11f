use Rattle.std.proofs.Common.{◌∙◌, ap, arith}
use Rattle.std.specs.Prelude.{length}
use Rattle.qccd_machine.specs.Machine.{MachineData}
use Rattle.op_table.specs.Act.{heat_in}
use Rattle.tracer.proofs.Ending.{heat_more, heat_small, heat_all}
use Rattle.tracer.proofs.ends.traps_heat.Goals as goal

pub overflow_add-sum : goal.overflow_add-sum
overflow_add-sum c =
    let long = ap (λ (m : MachineData). length m.capacities) c.machine.ensures.value in
    let small = heat_small c.args.program.now c.loop-trap.trap c.ops-ops.ensures.legal (omega (arith, long, c.loop-trap-test.true)) in
    let here = c.heat_in-sum.ensures ∙ ap heat_in c.held_at_end.ensures in
    omega (arith, small, here, c.loop-trap.invariant)

pub loop-trap-preserved : goal.loop-trap-preserved
loop-trap-preserved c =
    let long = ap (λ (m : MachineData). length m.capacities) c.machine.ensures.value in
    let more = heat_more c.args.program.now c.loop-trap.trap c.ops-ops.ensures.legal (omega (arith, long, c.loop-trap-test.true)) in
    let here = c.heat_in-sum.ensures ∙ ap heat_in c.held_at_end.ensures in
    omega (arith, more, here, c.loop-trap.invariant)

pub returns : goal.returns
returns c =
    let long = ap (λ (m : MachineData). length m.capacities) c.machine.ensures.value in
    c.loop-trap.invariant ∙ heat_all c.args.program.now c.loop-trap.trap c.ops-ops.ensures.legal (omega (arith, long))
