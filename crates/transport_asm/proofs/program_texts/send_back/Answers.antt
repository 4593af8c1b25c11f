use Rattle.std.proofs.Common.{ℕ, List, ◌++◌, codes, length, Ok, Err}
use Rattle.op_table.specs.declared.kinds.OpKind.{OpKind}
use Rattle.qccd_io.proofs.Sent.{sent_next, sent_last}
use Rattle.transport_asm.specs.ProgramText.{ops_head, op_line_text, numbered_texts}
use Rattle.op_text.proofs.Sending.{sent_grown}
use Rattle.transport_asm.proofs.program_texts.send_back.Goals as goal

abbrev head : List OpKind → List ℕ
head ops = ops_head (length ops)

abbrev lines : List OpKind → List ℕ
lines ops = numbered_texts op_line_text 0 ops

pub returns-in_err-send_ops_head : goal.returns-in_err-send_ops_head
returns-in_err-send_ops_head g c =
    sent_last c.from_residual.result _ (sent_grown (head c.args.ops.now ++ lines c.args.ops.now) (codes "end\n") (sent_grown (head c.args.ops.now) (lines c.args.ops.now) c.in_err-send_ops_head.ensures)) c.from_residual.ensures.1

pub returns-in_err-send_ops : goal.returns-in_err-send_ops
returns-in_err-send_ops g c =
    sent_last c.from_residual-in_err-send_ops.result _
    (sent_grown (head c.args.ops.now ++ lines c.args.ops.now) (codes "end\n") (sent_next (Err c.in_err-send_ops.field-0.0) (head c.args.ops.now) (lines c.args.ops.now) c.in_ok-send_ops_head.ensures c.in_err-send_ops.ensures))
    c.from_residual-in_err-send_ops.ensures.1

pub returns : goal.returns
returns g c =
    sent_next c.send.result (head c.args.ops.now ++ lines c.args.ops.now) (codes "end\n")
    (sent_next (Ok tt) (head c.args.ops.now) (lines c.args.ops.now) c.in_ok-send_ops_head.ensures c.in_ok-send_ops.ensures) c.send.ensures
