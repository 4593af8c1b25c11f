use Rattle.std.proofs.Common.{ℕ, List, ◌++◌, codes, decimal}
use Rattle.qccd_io.proofs.Sent.{sent_next, sent_last}
use Rattle.op_text.proofs.Sending.{sent_grown}
use Rattle.tracer.proofs.report.send_total.Goals as goal

abbrev head : List ℕ → ℕ → List ℕ
head label number = label ++ decimal number

abbrev feed : List ℕ
feed = codes "\n"

pub returns-in_err-send_labelled : goal.returns-in_err-send_labelled
returns-in_err-send_labelled g c =
    sent_last c.from_residual.result _ (sent_grown (head c.args.label.now c.args.n) feed c.in_err-send_labelled.ensures) c.from_residual.ensures.1

pub returns : goal.returns
returns g c =
    sent_next c.send.result (head c.args.label.now c.args.n) feed c.in_ok-send_labelled.ensures c.send.ensures
