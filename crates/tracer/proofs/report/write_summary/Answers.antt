use Rattle.std.proofs.Common.{ℕ, List, ◌++◌, ◌≡◌, codes, ap, Ok, Err}
use Rattle.qccd_io.proofs.Sent.{sent_next, sent_last}
use Rattle.op_text.proofs.Sending.{sent_grown}
use Rattle.std.specs.Prelude.{length}
use Rattle.qccd_base.specs.Line.{line}
use Rattle.op_table.specs.declared.kinds.OpKind.{OpKind}
use Rattle.qccd_program.specs.Program.{ProgramData}
use Rattle.tracer.specs.Report.{labelled, counts_line, last_finish}
use Rattle.tracer.specs.Summary.{traps_heat}
use Rattle.tracer.proofs.Loops.{sent_as}
use Rattle.tracer.proofs.report.write_summary.Goals as goal

abbrev first : ProgramData → ℕ → ℕ → List ℕ
first program number items = line (labelled (codes "rehearsal ") number ++ labelled (codes " qubits ") program.qubits ++ labelled (codes " items ") items ++ labelled (codes " ops ") (length program.ops))

abbrev total : List ℕ → ℕ → List ℕ
total label n = line (labelled label n)

abbrev opened : ℕ → ℕ → ℕ → List OpKind → List ℕ
opened number items qubits ops = line (labelled (codes "rehearsal ") number ++ labelled (codes " qubits ") qubits ++ labelled (codes " items ") items ++ labelled (codes " ops ") (length ops))

rehearsal : (number items : ℕ) {a b : ℕ} {xs ys : List OpKind} → a ≡ b → xs ≡ ys → opened number items a xs ≡ opened number items b ys
rehearsal number items qubits ops = λ i. opened number items (qubits i) (ops i)

abbrev counts : ProgramData → List ℕ
counts program = counts_line program.ops

abbrev heat : ProgramData → List ℕ
heat program = line (labelled (codes "heat ") (traps_heat program))

abbrev finish : ProgramData → List ℕ
finish program = line (labelled (codes "finish ") (last_finish program))

pub returns-in_err-send_rehearsal : goal.returns-in_err-send_rehearsal
returns-in_err-send_rehearsal g c =
    sent_last c.from_residual.result _ (sent_grown (((first c.args.program.now c.args.number c.args.items) ++ (counts c.args.program.now)) ++ (heat c.args.program.now)) (finish c.args.program.now) (sent_grown ((first c.args.program.now c.args.number c.args.items) ++ (counts c.args.program.now)) (heat c.args.program.now) (sent_grown (first c.args.program.now c.args.number c.args.items) (counts c.args.program.now) (sent_as (rehearsal c.args.number c.args.items c.qubits.ensures c.ops-ops.ensures.value) c.in_err-send_rehearsal.ensures)))) c.from_residual.ensures.1

pub returns-in_err-send_counts : goal.returns-in_err-send_counts
returns-in_err-send_counts g c =
    sent_last c.from_residual-in_err-send_counts.result _ (sent_grown (((first c.args.program.now c.args.number c.args.items) ++ (counts c.args.program.now)) ++ (heat c.args.program.now)) (finish c.args.program.now) (sent_grown ((first c.args.program.now c.args.number c.args.items) ++ (counts c.args.program.now)) (heat c.args.program.now) (sent_next (Err c.in_err-send_counts.field-0.0) (first c.args.program.now c.args.number c.args.items) (counts c.args.program.now) (sent_as (rehearsal c.args.number c.args.items c.qubits.ensures c.ops-ops.ensures.value) c.in_ok-send_rehearsal.ensures) (sent_as (ap counts_line c.ops-ops.ensures.value) (c.in_err-send_counts.ensures c.ops-ops.result.now c.counts_of.ensures))))) c.from_residual-in_err-send_counts.ensures.1

pub returns-in_err-send_total : goal.returns-in_err-send_total
returns-in_err-send_total g c =
    sent_last c.from_residual-in_err-send_total.result _ (sent_grown (((first c.args.program.now c.args.number c.args.items) ++ (counts c.args.program.now)) ++ (heat c.args.program.now)) (finish c.args.program.now) (sent_next (Err c.in_err-send_total.field-0.0) ((first c.args.program.now c.args.number c.args.items) ++ (counts c.args.program.now)) (heat c.args.program.now) (sent_next (Ok tt) (first c.args.program.now c.args.number c.args.items) (counts c.args.program.now) (sent_as (rehearsal c.args.number c.args.items c.qubits.ensures c.ops-ops.ensures.value) c.in_ok-send_rehearsal.ensures) (sent_as (ap counts_line c.ops-ops.ensures.value) (c.in_ok-send_counts.ensures c.ops-ops.result.now c.counts_of.ensures))) (sent_as (ap (total (codes "heat ")) c.traps_heat-heat.ensures) c.in_err-send_total.ensures))) c.from_residual-in_err-send_total.ensures.1

pub returns : goal.returns
returns g c =
    sent_next c.send_total-2.result (((first c.args.program.now c.args.number c.args.items) ++ (counts c.args.program.now)) ++ (heat c.args.program.now)) (finish c.args.program.now) (sent_next (Ok tt) ((first c.args.program.now c.args.number c.args.items) ++ (counts c.args.program.now)) (heat c.args.program.now) (sent_next (Ok tt) (first c.args.program.now c.args.number c.args.items) (counts c.args.program.now) (sent_as (rehearsal c.args.number c.args.items c.qubits.ensures c.ops-ops.ensures.value) c.in_ok-send_rehearsal.ensures) (sent_as (ap counts_line c.ops-ops.ensures.value) (c.in_ok-send_counts.ensures c.ops-ops.result.now c.counts_of.ensures))) (sent_as (ap (total (codes "heat ")) c.traps_heat-heat.ensures) c.in_ok-send_total.ensures)) (sent_as (ap (total (codes "finish ")) c.last_finish-finish.ensures) c.send_total-2.ensures)
