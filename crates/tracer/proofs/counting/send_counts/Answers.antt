use Rattle.std.proofs.Common.{ℕ, List, ◌++◌, codes, Ok, Err}
use Rattle.std.specs.Prelude.{flat_map}
use Rattle.qccd_io.proofs.Sent.{sent_next, sent_last}
use Rattle.op_text.proofs.Sending.{sent_grown}
use Rattle.std.specs.List.{enumerate_from}
use Rattle.op_table.specs.declared.kinds.OpKind.{OpKind}
use Rattle.tracer.specs.Report.{count_text, columns}
use Rattle.tracer.proofs.counting.send_counts.Goals as goal

abbrev word : List ℕ
word = codes "counts"

abbrev entries : List OpKind → List ℕ
entries ops = flat_map (count_text ops) (enumerate_from 0 columns)

abbrev feed : List ℕ
feed = codes "\n"

pub returns-in_err-send : goal.returns-in_err-send
returns-in_err-send g c ops tally =
    sent_last c.from_residual.result _ (sent_grown (word ++ (entries ops)) feed (sent_grown word (entries ops) c.in_err-send.ensures)) c.from_residual.ensures.1

pub returns-in_err-send_columns : goal.returns-in_err-send_columns
returns-in_err-send_columns g c ops tally =
    sent_last c.from_residual-in_err-send_columns.result _ (sent_grown (word ++ (entries ops)) feed (sent_next (Err c.in_err-send_columns.field-0.0) word (entries ops) c.in_ok-send.ensures (c.in_err-send_columns.ensures ops tally))) c.from_residual-in_err-send_columns.ensures.1

pub returns : goal.returns
returns g c ops tally =
    sent_next c.send-2.result (word ++ (entries ops)) feed (sent_next (Ok tt) word (entries ops) c.in_ok-send.ensures (c.in_ok-send_columns.ensures ops tally)) c.send-2.ensures
