use Rattle.qccd_base.specs.declared.names.Qubit.{Qubit}
use Rattle.qccd_io.proofs.Sent.{sent_flat}
use Rattle.op_text.specs.OpText.{qubit_text, next_word}
use Rattle.op_text.proofs.writing.send_qubits.Goals as goal

pub returns-in_err-send_qubit : goal.returns-in_err-send_qubit
returns-in_err-send_qubit g c =
    sent_flat (λ (q : Qubit). next_word (qubit_text q)) c.args.qubits.now c.loop-qubit.qubit-index _ _ c.loop-qubit-test.true
    c.loop-qubit.invariant c.in_err-send_qubit.ensures c.from_residual.ensures.1
