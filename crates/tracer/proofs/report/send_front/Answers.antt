use Rattle.std.proofs.Common.{ℕ, List, ◌++◌, codes, ap, Ok, Err}
use Rattle.std.specs.Prelude.{flat_map, length}
use Rattle.qccd_io.proofs.Sent.{sent_next, sent_last}
use Rattle.op_text.proofs.Sending.{sent_grown}
use Rattle.std.specs.List.{enumerate_from}
use Rattle.qccd_base.specs.Line.{line}
use Rattle.op_table.specs.declared.kinds.OpKind.{OpKind}
use Rattle.qccd_program.specs.Program.{ProgramData}
use Rattle.tracer.specs.Report.{labelled, size_line, start_line}
use Rattle.tracer.proofs.Loops.{sent_as}
use Rattle.tracer.proofs.report.send_front.Goals as goal

abbrev title : List ℕ
title = line (codes "QCCD report 1")

abbrev sizes : ProgramData → List ℕ
sizes program = size_line program

abbrev starts : ProgramData → List ℕ
starts program = flat_map start_line (enumerate_from 0 program.start)

abbrev total : ProgramData → List ℕ
total program = line (labelled (codes "ops ") (length program.ops))

pub returns-in_err-send : goal.returns-in_err-send
returns-in_err-send g c =
    sent_last c.from_residual.result _ (sent_grown ((title ++ (sizes c.args.program.now)) ++ (starts c.args.program.now)) (total c.args.program.now) (sent_grown (title ++ (sizes c.args.program.now)) (starts c.args.program.now) (sent_grown title (sizes c.args.program.now) c.in_err-send.ensures))) c.from_residual.ensures.1

pub returns-in_err-send_sizes : goal.returns-in_err-send_sizes
returns-in_err-send_sizes g c =
    sent_last c.from_residual-in_err-send_sizes.result _ (sent_grown ((title ++ (sizes c.args.program.now)) ++ (starts c.args.program.now)) (total c.args.program.now) (sent_grown (title ++ (sizes c.args.program.now)) (starts c.args.program.now) (sent_next (Err c.in_err-send_sizes.field-0.0) title (sizes c.args.program.now) c.in_ok-send.ensures c.in_err-send_sizes.ensures))) c.from_residual-in_err-send_sizes.ensures.1

pub returns-in_err-send_starts : goal.returns-in_err-send_starts
returns-in_err-send_starts g c =
    sent_last c.from_residual-in_err-send_starts.result _ (sent_grown ((title ++ (sizes c.args.program.now)) ++ (starts c.args.program.now)) (total c.args.program.now) (sent_next (Err c.in_err-send_starts.field-0.0) (title ++ (sizes c.args.program.now)) (starts c.args.program.now) (sent_next (Ok tt) title (sizes c.args.program.now) c.in_ok-send.ensures c.in_ok-send_sizes.ensures) c.in_err-send_starts.ensures)) c.from_residual-in_err-send_starts.ensures.1

pub returns : goal.returns
returns g c =
    sent_next c.send_total.result ((title ++ (sizes c.args.program.now)) ++ (starts c.args.program.now)) (total c.args.program.now) (sent_next (Ok tt) (title ++ (sizes c.args.program.now)) (starts c.args.program.now) (sent_next (Ok tt) title (sizes c.args.program.now) c.in_ok-send.ensures c.in_ok-send_sizes.ensures) c.in_ok-send_starts.ensures)
    (sent_as (ap (λ (ops : List OpKind). line (labelled (codes "ops ") (length ops))) c.ops.ensures.value) c.send_total.ensures)
