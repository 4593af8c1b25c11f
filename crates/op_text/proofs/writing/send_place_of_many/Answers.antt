use Rattle.std.proofs.Common.{ℕ, List, zip}
use Rattle.std.specs.Prelude.{flat_map}
use Rattle.qccd_io.proofs.Sent.{sent_next, sent_last}
use Rattle.qccd_base.specs.declared.names.Qubit.{Qubit}
use Rattle.op_text.specs.OpText.{trap_text, operand_text, next_word}
use Rattle.op_text.proofs.Sending.{sent_grown}
use Rattle.op_text.proofs.writing.send_place_of_many.Goals as goal

abbrev operands : List Qubit → List ℕ → List ℕ
operands qs at = flat_map (λ operand. next_word (operand_text operand)) (zip qs at)

pub returns-in_err-send_trap : goal.returns-in_err-send_trap
returns-in_err-send_trap g c =
    sent_last c.from_residual.result _ (sent_grown (next_word (trap_text c.args.trap)) (operands c.args.qubits.now c.args.at.now) c.in_err-send_trap.ensures) c.from_residual.ensures.1

pub returns : goal.returns
returns g c =
    sent_next c.send_operands.result (next_word (trap_text c.args.trap)) (operands c.args.qubits.now c.args.at.now) c.in_ok-send_trap.ensures c.send_operands.ensures
