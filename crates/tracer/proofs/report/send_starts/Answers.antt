use Rattle.std.proofs.Common.{ap, arith}
use Rattle.std.specs.Prelude.{length}
use Rattle.std.specs.List.{enumerate_from}
use Rattle.std.proofs.lemmas.List.FromFn.{length-enumerate_from}
use Rattle.qccd_machine.specs.Machine.{MachineData}
use Rattle.tracer.specs.Report.{start_line}
use Rattle.tracer.proofs.Loops.{more_sent, part_sent, all_sent, numbered_at}
use Rattle.tracer.proofs.report.send_starts.Goals as goal

pub loop-t-preserved : goal.loop-t-preserved
loop-t-preserved g c =
    more_sent start_line (enumerate_from 0 c.args.program.now.start) c.loop-t.t _ (numbered_at c.args.program.now.start c.loop-t.t _ c.start.ensures) c.loop-t.invariant c.in_ok-send_start.ensures

pub returns-in_err-send_start : goal.returns-in_err-send_start
returns-in_err-send_start g c =
    part_sent start_line (enumerate_from 0 c.args.program.now.start) c.loop-t.t _ _ (numbered_at c.args.program.now.start c.loop-t.t _ c.start.ensures) c.loop-t.invariant c.in_err-send_start.ensures c.from_residual.ensures.1

pub returns : goal.returns
returns g c =
    let long = ap (λ (m : MachineData). length m.capacities) c.machine.ensures.value in
    all_sent start_line (enumerate_from 0 c.args.program.now.start) c.loop-t.t (omega (arith, long, length-enumerate_from 0 c.args.program.now.start, c.ops-ops.ensures.legal.start.chains)) c.loop-t.invariant
