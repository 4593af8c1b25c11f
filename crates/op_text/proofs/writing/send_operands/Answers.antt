use Rattle.std.proofs.Common.{ℕ, List, zip, Ok, Err, sym, subst, arith}
use Rattle.std.specs.Prelude.{flat_map}
use Rattle.qccd_base.specs.declared.names.Qubit.{Qubit}
use Rattle.qccd_io.specs.declared.failed.Failed.{Failed}
use Rattle.qccd_io.specs.Sends.{Sends}
use Rattle.qccd_io.proofs.Sent.{sent_flat}
use Rattle.op_text.specs.OpText.{operand_text, next_word}
use Rattle.op_text.proofs.Sending.{sent_more, zip_at, take_zip}
use Rattle.op_text.proofs.writing.send_operands.Goals as goal

pub loop-i-preserved : goal.loop-i-preserved
loop-i-preserved g c =
    let at = zip_at c.args.qubits.now c.args.at.now c.loop-i.i _ _ c.requires (omega arith) in
    sent_more (λ (operand : Qubit × ℕ). next_word (operand_text operand)) (zip c.args.qubits.now c.args.at.now) c.loop-i.i _ at.0 c.loop-i.invariant
    (subst (λ (operand : Qubit × ℕ). Sends {T = Unit {0}} {E = Failed} g.S.Sink.taken g.S.Sink.faults g.S.Sink.behind c.loop-i.sink c.send_operand.new.sink (Ok tt) (next_word (operand_text operand))) (sym at.1) c.in_ok-send_operand.ensures)

pub returns-in_err-send_operand : goal.returns-in_err-send_operand
returns-in_err-send_operand g c =
    let at = zip_at c.args.qubits.now c.args.at.now c.loop-i.i _ _ c.requires (omega arith) in
    sent_flat (λ (operand : Qubit × ℕ). next_word (operand_text operand)) (zip c.args.qubits.now c.args.at.now) c.loop-i.i _ _ at.0 c.loop-i.invariant
    (subst (λ (operand : Qubit × ℕ). Sends {T = Unit {0}} {E = Failed} g.S.Sink.taken g.S.Sink.faults g.S.Sink.behind c.loop-i.sink c.send_operand.new.sink (Err c.in_err-send_operand.field-0.0) (next_word (operand_text operand))) (sym at.1) c.in_err-send_operand.ensures)
    c.from_residual.ensures.1

pub returns : goal.returns
returns g c =
    subst (λ (operands : List (Qubit × ℕ)). Sends {T = Unit {0}} {E = Failed} g.S.Sink.taken g.S.Sink.faults g.S.Sink.behind c.args.sink.now c.loop-i.sink (Ok tt) (flat_map (λ operand. next_word (operand_text operand)) operands))
    (take_zip c.args.qubits.now c.args.at.now c.loop-i.i c.requires (omega arith)) c.loop-i.invariant
