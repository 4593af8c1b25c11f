use Rattle.std.proofs.Common.{ℕ, List, ◌++◌, codes, decimal, Ok, Err}
use Rattle.std.specs.Prelude.{flat_map}
use Rattle.qccd_io.proofs.Sent.{sent_next, sent_last}
use Rattle.op_text.proofs.Sending.{sent_grown}
use Rattle.qccd_base.specs.declared.names.Ion.{Ion}
use Rattle.op_text.specs.OpText.{next_word}
use Rattle.tracer.specs.Report.{labelled}
use Rattle.tracer.proofs.report.send_start.Goals as goal

abbrev head : ℕ → List ℕ
head number = labelled (codes "start T") number

abbrev words : List Ion → List ℕ
words ions = flat_map (λ i. next_word (decimal i.0)) ions

abbrev feed : List ℕ
feed = codes "\n"

pub returns-in_err-send_start_label : goal.returns-in_err-send_start_label
returns-in_err-send_start_label g c =
    sent_last c.from_residual.result _ (sent_grown ((head c.args.t.0) ++ (words c.args.ions.now)) feed (sent_grown (head c.args.t.0) (words c.args.ions.now) c.in_err-send_start_label.ensures)) c.from_residual.ensures.1

pub returns-in_err-send_ions : goal.returns-in_err-send_ions
returns-in_err-send_ions g c =
    sent_last c.from_residual-in_err-send_ions.result _ (sent_grown ((head c.args.t.0) ++ (words c.args.ions.now)) feed (sent_next (Err c.in_err-send_ions.field-0.0) (head c.args.t.0) (words c.args.ions.now) c.in_ok-send_start_label.ensures c.in_err-send_ions.ensures)) c.from_residual-in_err-send_ions.ensures.1

pub returns : goal.returns
returns g c =
    sent_next c.send.result ((head c.args.t.0) ++ (words c.args.ions.now)) feed (sent_next (Ok tt) (head c.args.t.0) (words c.args.ions.now) c.in_ok-send_start_label.ensures c.in_ok-send_ions.ensures) c.send.ensures
