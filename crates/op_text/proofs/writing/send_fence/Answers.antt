use Rattle.std.proofs.Common.{ℕ, List, ◌++◌, codes, decimal, Ok, Err, ◌∙◌, subst}
use Rattle.std.specs.Prelude.{flat_map}
use Rattle.qccd_io.specs.Sends.{Sends}
use Rattle.qccd_io.proofs.Sent.{sent_next, sent_last}
use Rattle.qccd_base.specs.declared.names.TrapId.{TrapId}
use Rattle.qccd_base.specs.declared.names.Qubit.{Qubit}
use Rattle.op_text.specs.OpText.{trap_text, qubit_text, next_word}
use Rattle.op_text.proofs.Sending.{sent_grown}
use Rattle.op_text.proofs.writing.send_fence.Goals as goal

abbrev head : ℕ → List ℕ
head number = codes "fence " ++ decimal number

abbrev traps : List TrapId → List ℕ
traps ts = flat_map (λ t. next_word (trap_text t)) ts

abbrev qubits : List Qubit → List ℕ
qubits qs = flat_map (λ q. next_word (qubit_text q)) qs

pub returns-in_err-send_fence_number : goal.returns-in_err-send_fence_number
returns-in_err-send_fence_number g c =
    sent_last c.from_residual.result _ (sent_grown (head c.args.number ++ traps c.args.traps.now) (qubits c.args.item.now.qubits) (sent_grown (head c.args.number) (traps c.args.traps.now) c.in_err-send_fence_number.ensures)) c.from_residual.ensures.1

pub returns-in_err-send_traps : goal.returns-in_err-send_traps
returns-in_err-send_traps g c =
    sent_last c.from_residual-in_err-send_traps.result _
    (sent_grown (head c.args.number ++ traps c.args.traps.now) (qubits c.args.item.now.qubits) (sent_next (Err c.in_err-send_traps.field-0.0) (head c.args.number) (traps c.args.traps.now) c.in_ok-send_fence_number.ensures c.in_err-send_traps.ensures))
    c.from_residual-in_err-send_traps.ensures.1

pub returns : goal.returns
returns g c =
    sent_next c.send_qubits.result (head c.args.number ++ traps c.args.traps.now) (qubits c.args.item.now.qubits)
    (sent_next (Ok tt) (head c.args.number) (traps c.args.traps.now) c.in_ok-send_fence_number.ensures c.in_ok-send_traps.ensures)
    (subst (λ (qs : List Qubit). Sends g.S.Sink.taken g.S.Sink.faults g.S.Sink.behind c.send_traps.new.sink c.send_qubits.new.sink c.send_qubits.result (qubits qs)) (c.as_slice.ensures ∙ c.qubits.ensures) c.send_qubits.ensures)
