use Rattle.std.proofs.Common.{ap, arith}
use Rattle.qccd_program.specs.Program.{end_of}
use Rattle.tracer.specs.Report.{end_line}
use Rattle.std.specs.Prelude.{length}
use Rattle.std.specs.List.{range_with_len}
use Rattle.qccd_machine.specs.Machine.{MachineData}
use Rattle.tracer.proofs.Loops.{more_sent, part_sent, all_sent, range_at, range_long}
use Rattle.tracer.proofs.ends.send_trap_ends.Goals as goal

pub loop-t-preserved : goal.loop-t-preserved
loop-t-preserved g c =
    let long = ap (λ (m : MachineData). length m.capacities) c.machine.ensures.value in
    more_sent (end_line (end_of c.args.program.now)) (range_with_len 0 (length c.args.program.now.machine.capacities)) c.loop-t.t c.loop-t.t (range_at (length c.args.program.now.machine.capacities) c.loop-t.t (omega (arith, long, c.loop-t-test.true))) c.loop-t.invariant c.in_ok-send_trap_end.ensures

pub returns-in_err-send_trap_end : goal.returns-in_err-send_trap_end
returns-in_err-send_trap_end g c =
    let long = ap (λ (m : MachineData). length m.capacities) c.machine.ensures.value in
    part_sent (end_line (end_of c.args.program.now)) (range_with_len 0 (length c.args.program.now.machine.capacities)) c.loop-t.t c.loop-t.t _ (range_at (length c.args.program.now.machine.capacities) c.loop-t.t (omega (arith, long, c.loop-t-test.true))) c.loop-t.invariant c.in_err-send_trap_end.ensures c.from_residual.ensures.1

pub returns : goal.returns
returns g c =
    let long = ap (λ (m : MachineData). length m.capacities) c.machine.ensures.value in
    all_sent (end_line (end_of c.args.program.now)) (range_with_len 0 (length c.args.program.now.machine.capacities)) c.loop-t.t (omega (arith, long, range_long 0 (length c.args.program.now.machine.capacities))) c.loop-t.invariant
