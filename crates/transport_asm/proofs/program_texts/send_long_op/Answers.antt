use Rattle.std.proofs.Common.{ℕ, List, ◌++◌, codes, decimal, Ok, Err}
use Rattle.qccd_io.proofs.Sent.{sent_next, sent_last}
use Rattle.op_text.specs.OpText.{op_text}
use Rattle.op_text.proofs.Sending.{sent_grown}
use Rattle.transport_asm.proofs.program_texts.send_long_op.Goals as goal

abbrev head : ℕ → List ℕ
head k = decimal k ++ codes " "

pub returns-in_err-send_op_number : goal.returns-in_err-send_op_number
returns-in_err-send_op_number g c =
    sent_last c.from_residual.result _ (sent_grown (head c.args.number ++ op_text c.args.op.now) (codes "\n") (sent_grown (head c.args.number) (op_text c.args.op.now) c.in_err-send_op_number.ensures)) c.from_residual.ensures.1

pub returns-in_err-write_op : goal.returns-in_err-write_op
returns-in_err-write_op g c =
    sent_last c.from_residual-in_err-write_op.result _
    (sent_grown (head c.args.number ++ op_text c.args.op.now) (codes "\n") (sent_next (Err c.in_err-write_op.field-0.0) (head c.args.number) (op_text c.args.op.now) c.in_ok-send_op_number.ensures c.in_err-write_op.ensures))
    c.from_residual-in_err-write_op.ensures.1

pub returns : goal.returns
returns g c =
    sent_next c.send.result (head c.args.number ++ op_text c.args.op.now) (codes "\n")
    (sent_next (Ok tt) (head c.args.number) (op_text c.args.op.now) c.in_ok-send_op_number.ensures c.in_ok-write_op.ensures) c.send.ensures
