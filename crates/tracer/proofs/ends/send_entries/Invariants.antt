use Rattle.std.proofs.Common.{Ok, take}
use Rattle.std.specs.Prelude.{flat_map}
use Rattle.op_text.specs.OpText.{next_word}
use Rattle.tracer.specs.Report.{pair_text}
use Rattle.op_table.specs.declared.contents.Entry.{Entry}
use Rattle.qccd_io.specs.declared.failed.Failed.{Failed}
use Rattle.qccd_io.specs.Sends.{Sends}
use Rattle.tracer.proofs.ends.send_entries.Given as goal

abbrev pub invariant-loop-entry : goal.invariant-loop-entry
invariant-loop-entry g l = Sends {T = Unit {0}} {E = Failed} g.S.Sink.taken g.S.Sink.faults g.S.Sink.behind l.fn.sink l.sink (Ok tt) (flat_map (λ (e : Entry). next_word (pair_text e.ion.0 e.qubit)) (take l.entry-index l.entries))
