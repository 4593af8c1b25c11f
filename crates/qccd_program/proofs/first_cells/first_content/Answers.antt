use Rattle.std.proofs.Common.{ap, length, arith}
use Rattle.qccd_machine.specs.Machine.{MachineData}
use Rattle.qccd_program.proofs.FirstCells.{trap-read, seg-at, junc-at}
use Rattle.qccd_program.proofs.first_cells.first_content.Goals as goal

pub returns-then-i-traps : goal.returns-then-i-traps
returns-then-i-traps c =
    let traps = ap (λ (m : MachineData). length m.capacities) c.machine-machine.ensures.value in
    trap-read c.args.program.now c.args.i c.start_chain.result.items c.start.result.now c.ops-ops.ensures.legal
    (omega (arith, c.if-i-traps.true, c.from-traps.ensures, c.traps.ensures.count, traps)) c.start_chain.ensures c.start.ensures

pub returns-then-i-traps-2 : goal.returns-then-i-traps-2
returns-then-i-traps-2 c =
    let traps = ap (λ (m : MachineData). length m.capacities) c.machine-machine.ensures.value in
    let segments = ap (λ (m : MachineData). length m.segments) c.machine-machine.ensures.value in
    seg-at c.args.program.now c.args.i (omega (arith, c.if-i-traps.false, c.from-traps.ensures, c.traps.ensures.count, traps))
    (omega (arith, c.if-i-traps-2.true, c.from-traps.ensures, c.traps.ensures.count, c.from-segments.ensures, c.segments.ensures, traps, segments))

pub returns-then-i-traps-3 : goal.returns-then-i-traps-3
returns-then-i-traps-3 c =
    let traps = ap (λ (m : MachineData). length m.capacities) c.machine-machine.ensures.value in
    let segments = ap (λ (m : MachineData). length m.segments) c.machine-machine.ensures.value in
    let junctions = ap (λ (m : MachineData). m.junctions) c.machine-machine.ensures.value in
    junc-at c.args.program.now c.args.i
    (omega (arith, c.if-i-traps-2.false, c.from-traps.ensures, c.traps.ensures.count, c.from-segments.ensures, c.segments.ensures, traps, segments))
    (omega (arith, c.if-i-traps-3.true, c.from-traps.ensures, c.traps.ensures.count, c.from-segments.ensures, c.segments.ensures, c.from-junctions.ensures, c.junctions.ensures, traps, segments, junctions))
