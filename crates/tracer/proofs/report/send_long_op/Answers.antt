use Rattle.std.proofs.Common.{◌≡◌, ℕ, List, ◌++◌, codes, decimal, Ok, Err, ap, subst, append_assoc}
use Rattle.qccd_io.specs.Sends.{Sends}
use Rattle.qccd_io.proofs.Sent.{sent_next, sent_last}
use Rattle.op_text.proofs.Sending.{sent_grown}
use Rattle.op_table.specs.declared.kinds.OpKind.{OpKind}
use Rattle.op_cells.specs.declared.cells.Done.{Done}
use Rattle.op_text.specs.OpText.{op_text, next_word}
use Rattle.tracer.proofs.report.send_long_op.Goals as goal

abbrev times : Done → List ℕ
times done = decimal done.op ++ next_word (decimal done.start) ++ next_word (decimal done.finish)

abbrev front : Done → List ℕ
front done = times done ++ codes " "

abbrev text : OpKind → List ℕ
text op = op_text op

abbrev feed : List ℕ
feed = codes "\n"

shape : (times op : List ℕ) → ((times ++ codes " ") ++ op) ++ codes "\n" ≡ (times ++ next_word op) ++ codes "\n"
shape times op = ap (λ (text : List ℕ). text ++ codes "\n") (append_assoc times (codes " ") op)

pub returns-in_err-send_times : goal.returns-in_err-send_times
returns-in_err-send_times g c =
    subst (λ (text : List ℕ). Sends g.S.Sink.taken g.S.Sink.faults g.S.Sink.behind c.args.sink.now c.send_times.new.sink c.from_residual.result text) (shape (times c.args.done.now) (op_text c.args.op.now))
    (sent_last c.from_residual.result _ (sent_grown (front c.args.done.now ++ text c.args.op.now) feed (sent_grown (front c.args.done.now) (text c.args.op.now) c.in_err-send_times.ensures)) c.from_residual.ensures.1)

pub returns-in_err-write_op : goal.returns-in_err-write_op
returns-in_err-write_op g c =
    subst (λ (text : List ℕ). Sends g.S.Sink.taken g.S.Sink.faults g.S.Sink.behind c.args.sink.now c.write_op.new.sink c.from_residual-in_err-write_op.result text) (shape (times c.args.done.now) (op_text c.args.op.now))
    (sent_last c.from_residual-in_err-write_op.result _ (sent_grown (front c.args.done.now ++ text c.args.op.now) feed (sent_next (Err c.in_err-write_op.field-0.0) (front c.args.done.now) (text c.args.op.now) c.in_ok-send_times.ensures c.in_err-write_op.ensures)) c.from_residual-in_err-write_op.ensures.1)

pub returns : goal.returns
returns g c =
    subst (λ (text : List ℕ). Sends g.S.Sink.taken g.S.Sink.faults g.S.Sink.behind c.args.sink.now c.send.new.sink c.send.result text) (shape (times c.args.done.now) (op_text c.args.op.now))
    (sent_next c.send.result (front c.args.done.now ++ text c.args.op.now) feed (sent_next (Ok tt) (front c.args.done.now) (text c.args.op.now) c.in_ok-send_times.ensures c.in_ok-write_op.ensures) c.send.ensures)
