use Rattle.std.proofs.Common.{ℕ, List, ◌++◌, codes, ap, Ok, Err}
use Rattle.std.specs.Prelude.{flat_map, length}
use Rattle.qccd_io.proofs.Sent.{sent_next, sent_last}
use Rattle.op_text.proofs.Sending.{sent_grown}
use Rattle.std.specs.List.{enumerate_from}
use Rattle.qccd_base.specs.Line.{line}
use Rattle.qccd_program.specs.Program.{ProgramData}
use Rattle.tracer.specs.TimeOrder.{time_order}
use Rattle.tracer.specs.Report.{labelled, size_line, start_line, op_line, end_lines, counts_line, last_finish}
use Rattle.tracer.proofs.Loops.{sent_as, sent_plain}
use Rattle.tracer.proofs.report.send_report.Goals as goal

abbrev front : ProgramData → List ℕ
front program = line (codes "QCCD report 1") ++ size_line program ++ flat_map start_line (enumerate_from 0 program.start) ++ line (labelled (codes "ops ") (length program.ops))

abbrev lines : ProgramData → List ℕ
lines program = flat_map op_line (time_order program)

abbrev ends : ProgramData → List ℕ
ends program = end_lines program

abbrev counts : ProgramData → List ℕ
counts program = counts_line program.ops

abbrev finish : ProgramData → List ℕ
finish program = line (labelled (codes "finish ") (last_finish program))

pub returns-in_err-send_front : goal.returns-in_err-send_front
returns-in_err-send_front g c =
    sent_last c.from_residual.result _ (sent_grown ((((front c.args.program.now) ++ (lines c.args.program.now)) ++ (ends c.args.program.now)) ++ (counts c.args.program.now)) (finish c.args.program.now) (sent_grown (((front c.args.program.now) ++ (lines c.args.program.now)) ++ (ends c.args.program.now)) (counts c.args.program.now) (sent_grown ((front c.args.program.now) ++ (lines c.args.program.now)) (ends c.args.program.now) (sent_grown (front c.args.program.now) (lines c.args.program.now) c.in_err-send_front.ensures)))) c.from_residual.ensures.1

pub returns-in_err-counts : goal.returns-in_err-counts
returns-in_err-counts g c =
    sent_last c.from_residual-in_err-counts.result _ (sent_grown ((((front c.args.program.now) ++ (lines c.args.program.now)) ++ (ends c.args.program.now)) ++ (counts c.args.program.now)) (finish c.args.program.now) (sent_grown (((front c.args.program.now) ++ (lines c.args.program.now)) ++ (ends c.args.program.now)) (counts c.args.program.now) (sent_grown ((front c.args.program.now) ++ (lines c.args.program.now)) (ends c.args.program.now) (sent_next (Err c.in_err-counts.field-0.0) (front c.args.program.now) (lines c.args.program.now) c.in_ok-send_front.ensures c.in_err-counts.ensures.sent)))) c.from_residual-in_err-counts.ensures.1

pub returns-in_err-send_ends : goal.returns-in_err-send_ends
returns-in_err-send_ends g c =
    sent_last c.from_residual-in_err-send_ends.result _ (sent_grown ((((front c.args.program.now) ++ (lines c.args.program.now)) ++ (ends c.args.program.now)) ++ (counts c.args.program.now)) (finish c.args.program.now) (sent_grown (((front c.args.program.now) ++ (lines c.args.program.now)) ++ (ends c.args.program.now)) (counts c.args.program.now) (sent_next (Err c.in_err-send_ends.field-0.0) ((front c.args.program.now) ++ (lines c.args.program.now)) (ends c.args.program.now) (sent_next (Ok tt) (front c.args.program.now) (lines c.args.program.now) c.in_ok-send_front.ensures (sent_plain c.in_ok-counts.ensures.sent)) c.in_err-send_ends.ensures))) c.from_residual-in_err-send_ends.ensures.1

pub returns-in_err-send_counts : goal.returns-in_err-send_counts
returns-in_err-send_counts g c =
    sent_last c.from_residual-in_err-send_counts.result _ (sent_grown ((((front c.args.program.now) ++ (lines c.args.program.now)) ++ (ends c.args.program.now)) ++ (counts c.args.program.now)) (finish c.args.program.now) (sent_next (Err c.in_err-send_counts.field-0.0) (((front c.args.program.now) ++ (lines c.args.program.now)) ++ (ends c.args.program.now)) (counts c.args.program.now) (sent_next (Ok tt) ((front c.args.program.now) ++ (lines c.args.program.now)) (ends c.args.program.now) (sent_next (Ok tt) (front c.args.program.now) (lines c.args.program.now) c.in_ok-send_front.ensures (sent_plain c.in_ok-counts.ensures.sent)) c.in_ok-send_ends.ensures) (c.in_err-send_counts.ensures c.args.program.now.ops c.in_ok-counts.ensures.counted))) c.from_residual-in_err-send_counts.ensures.1

pub returns : goal.returns
returns g c =
    sent_next c.send_total.result ((((front c.args.program.now) ++ (lines c.args.program.now)) ++ (ends c.args.program.now)) ++ (counts c.args.program.now)) (finish c.args.program.now) (sent_next (Ok tt) (((front c.args.program.now) ++ (lines c.args.program.now)) ++ (ends c.args.program.now)) (counts c.args.program.now) (sent_next (Ok tt) ((front c.args.program.now) ++ (lines c.args.program.now)) (ends c.args.program.now) (sent_next (Ok tt) (front c.args.program.now) (lines c.args.program.now) c.in_ok-send_front.ensures (sent_plain c.in_ok-counts.ensures.sent)) c.in_ok-send_ends.ensures) (c.in_ok-send_counts.ensures c.args.program.now.ops c.in_ok-counts.ensures.counted))
    (sent_as (ap (λ (n : ℕ). line (labelled (codes "finish ") n)) c.last_finish-finish.ensures) c.send_total.ensures)
