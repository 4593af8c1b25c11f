use Rattle.std.proofs.Common.{ℕ, List, subst}
use Rattle.qccd_io.specs.Sends.{Sends}
use Rattle.qccd_io.proofs.Sent.{sent_next, sent_last}
use Rattle.transport_asm.specs.ProgramText.{front_text, back_text}
use Rattle.transport_asm.proofs.ProgramWriting.{text_is}
use Rattle.op_text.proofs.Sending.{sent_grown}
use Rattle.transport_asm.proofs.program_texts.write_program.Goals as goal

pub returns-in_err-send_front : goal.returns-in_err-send_front
returns-in_err-send_front g c =
    let p = c.args.program.now in
    subst (λ (text : List ℕ). Sends g.S.Sink.taken g.S.Sink.faults g.S.Sink.behind c.args.sink.now c.send_front.new.sink c.from_residual.result text) (text_is p)
    (sent_last c.from_residual.result _ (sent_grown (front_text p) (back_text p.ops) c.in_err-send_front.ensures) c.from_residual.ensures.1)

pub returns : goal.returns
returns g c =
    let p = c.args.program.now in
    subst (λ (text : List ℕ). Sends g.S.Sink.taken g.S.Sink.faults g.S.Sink.behind c.args.sink.now c.send_back.new.sink c.send_back.result text) (text_is p)
    (sent_next c.send_back.result (front_text p) (back_text p.ops) c.in_ok-send_front.ensures (rw c.ops.ensures.value at c.send_back.ensures))
