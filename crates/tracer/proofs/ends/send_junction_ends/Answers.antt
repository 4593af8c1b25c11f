use Rattle.std.proofs.Common.{ap, arith}
use Rattle.qccd_program.specs.Program.{end_of}
use Rattle.op_table.specs.State.{is_in_junction}
use Rattle.tracer.specs.Report.{stray_lines}
use Rattle.std.specs.List.{range_with_len}
use Rattle.qccd_machine.specs.Machine.{MachineData}
use Rattle.tracer.proofs.Loops.{more_sent, part_sent, all_sent, range_at, range_long}
use Rattle.tracer.proofs.ends.send_junction_ends.Goals as goal

pub loop-j-preserved : goal.loop-j-preserved
loop-j-preserved g c =
    let long = ap (λ (m : MachineData). m.junctions) c.machine.ensures.value in
    more_sent (λ n. stray_lines (end_of c.args.program.now) (is_in_junction n)) (range_with_len 0 (c.args.program.now.machine.junctions)) c.loop-j.j c.loop-j.j (range_at (c.args.program.now.machine.junctions) c.loop-j.j (omega (arith, long, c.loop-j-test.true))) c.loop-j.invariant c.in_ok-send_junction_end.ensures

pub returns-in_err-send_junction_end : goal.returns-in_err-send_junction_end
returns-in_err-send_junction_end g c =
    let long = ap (λ (m : MachineData). m.junctions) c.machine.ensures.value in
    part_sent (λ n. stray_lines (end_of c.args.program.now) (is_in_junction n)) (range_with_len 0 (c.args.program.now.machine.junctions)) c.loop-j.j c.loop-j.j _ (range_at (c.args.program.now.machine.junctions) c.loop-j.j (omega (arith, long, c.loop-j-test.true))) c.loop-j.invariant c.in_err-send_junction_end.ensures c.from_residual.ensures.1

pub returns : goal.returns
returns g c =
    let long = ap (λ (m : MachineData). m.junctions) c.machine.ensures.value in
    all_sent (λ n. stray_lines (end_of c.args.program.now) (is_in_junction n)) (range_with_len 0 (c.args.program.now.machine.junctions)) c.loop-j.j (omega (arith, long, range_long 0 (c.args.program.now.machine.junctions))) c.loop-j.invariant
