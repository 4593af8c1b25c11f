use Rattle.std.proofs.Common.{ℕ, List, ◌++◌, Ok, Err}
use Rattle.std.specs.Prelude.{flat_map, length}
use Rattle.qccd_io.proofs.Sent.{sent_next, sent_last}
use Rattle.op_text.proofs.Sending.{sent_grown}
use Rattle.std.specs.List.{range_with_len}
use Rattle.op_table.specs.State.{is_on_segment, is_in_junction}
use Rattle.qccd_program.specs.Program.{ProgramData, end_of}
use Rattle.tracer.specs.Report.{end_line, stray_lines}
use Rattle.tracer.proofs.ends.send_ends.Goals as goal

abbrev traps : ProgramData → List ℕ
traps program = flat_map (end_line (end_of program)) (range_with_len 0 (length program.machine.capacities))

abbrev segments : ProgramData → List ℕ
segments program = flat_map (λ g. stray_lines (end_of program) (is_on_segment g)) (range_with_len 0 (length program.machine.segments))

abbrev junctions : ProgramData → List ℕ
junctions program = flat_map (λ j. stray_lines (end_of program) (is_in_junction j)) (range_with_len 0 program.machine.junctions)

pub returns-in_err-send_trap_ends : goal.returns-in_err-send_trap_ends
returns-in_err-send_trap_ends g c =
    sent_last c.from_residual.result _ (sent_grown ((traps c.args.program.now) ++ (segments c.args.program.now)) (junctions c.args.program.now) (sent_grown (traps c.args.program.now) (segments c.args.program.now) c.in_err-send_trap_ends.ensures)) c.from_residual.ensures.1

pub returns-in_err-send_segment_ends : goal.returns-in_err-send_segment_ends
returns-in_err-send_segment_ends g c =
    sent_last c.from_residual-in_err-send_segment_ends.result _ (sent_grown ((traps c.args.program.now) ++ (segments c.args.program.now)) (junctions c.args.program.now) (sent_next (Err c.in_err-send_segment_ends.field-0.0) (traps c.args.program.now) (segments c.args.program.now) c.in_ok-send_trap_ends.ensures c.in_err-send_segment_ends.ensures)) c.from_residual-in_err-send_segment_ends.ensures.1

pub returns : goal.returns
returns g c =
    sent_next c.send_junction_ends.result ((traps c.args.program.now) ++ (segments c.args.program.now)) (junctions c.args.program.now) (sent_next (Ok tt) (traps c.args.program.now) (segments c.args.program.now) c.in_ok-send_trap_ends.ensures c.in_ok-send_segment_ends.ensures) c.send_junction_ends.ensures
