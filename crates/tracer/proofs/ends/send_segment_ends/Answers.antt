use Rattle.std.proofs.Common.{ap, arith}
use Rattle.qccd_program.specs.Program.{end_of}
use Rattle.op_table.specs.State.{is_on_segment}
use Rattle.tracer.specs.Report.{stray_lines}
use Rattle.std.specs.Prelude.{length}
use Rattle.std.specs.List.{range_with_len}
use Rattle.qccd_machine.specs.Machine.{MachineData}
use Rattle.tracer.proofs.Loops.{more_sent, part_sent, all_sent, range_at, range_long}
use Rattle.tracer.proofs.ends.send_segment_ends.Goals as goal

pub loop-g-preserved : goal.loop-g-preserved
loop-g-preserved g c =
    let long = ap (λ (m : MachineData). length m.segments) c.machine.ensures.value in
    more_sent (λ n. stray_lines (end_of c.args.program.now) (is_on_segment n)) (range_with_len 0 (length c.args.program.now.machine.segments)) c.loop-g.g c.loop-g.g (range_at (length c.args.program.now.machine.segments) c.loop-g.g (omega (arith, long, c.loop-g-test.true))) c.loop-g.invariant c.in_ok-send_segment_end.ensures

pub returns-in_err-send_segment_end : goal.returns-in_err-send_segment_end
returns-in_err-send_segment_end g c =
    let long = ap (λ (m : MachineData). length m.segments) c.machine.ensures.value in
    part_sent (λ n. stray_lines (end_of c.args.program.now) (is_on_segment n)) (range_with_len 0 (length c.args.program.now.machine.segments)) c.loop-g.g c.loop-g.g _ (range_at (length c.args.program.now.machine.segments) c.loop-g.g (omega (arith, long, c.loop-g-test.true))) c.loop-g.invariant c.in_err-send_segment_end.ensures c.from_residual.ensures.1

pub returns : goal.returns
returns g c =
    let long = ap (λ (m : MachineData). length m.segments) c.machine.ensures.value in
    all_sent (λ n. stray_lines (end_of c.args.program.now) (is_on_segment n)) (range_with_len 0 (length c.args.program.now.machine.segments)) c.loop-g.g (omega (arith, long, range_long 0 (length c.args.program.now.machine.segments))) c.loop-g.invariant
