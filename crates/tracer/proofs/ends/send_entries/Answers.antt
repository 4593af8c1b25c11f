use Rattle.op_table.specs.declared.contents.Entry.{Entry}
use Rattle.qccd_io.proofs.Sent.{sent_flat}
use Rattle.op_text.specs.OpText.{next_word}
use Rattle.tracer.specs.Report.{pair_text}
use Rattle.tracer.proofs.ends.send_entries.Goals as goal

pub returns-in_err-send_entry : goal.returns-in_err-send_entry
returns-in_err-send_entry g c =
    sent_flat (λ (e : Entry). next_word (pair_text e.ion.0 e.qubit)) c.args.entries.now c.loop-entry.entry-index _ _ c.loop-entry-test.true c.loop-entry.invariant c.in_err-send_entry.ensures c.from_residual.ensures.1
