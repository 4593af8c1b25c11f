use Rattle.std.proofs.Common.{ℕ, List, ◌++◌, codes, decimal}
use Rattle.qccd_io.proofs.Sent.{sent_next, sent_last}
use Rattle.op_text.proofs.Sending.{sent_grown}
use Rattle.transport_asm.proofs.program_texts.send_counts.Goals as goal

abbrev first : ℕ → List ℕ
first qubits = codes "qubits " ++ decimal qubits

abbrev second : ℕ → List ℕ
second bits = codes "\nbits " ++ decimal bits

pub returns-in_err-send_qubit_count : goal.returns-in_err-send_qubit_count
returns-in_err-send_qubit_count g c =
    sent_last c.from_residual.result _ (sent_grown (first c.args.qubits) (second c.args.bits) c.in_err-send_qubit_count.ensures) c.from_residual.ensures.1

pub returns : goal.returns
returns g c = sent_next c.send_bit_count.result (first c.args.qubits) (second c.args.bits) c.in_ok-send_qubit_count.ensures c.send_bit_count.ensures
