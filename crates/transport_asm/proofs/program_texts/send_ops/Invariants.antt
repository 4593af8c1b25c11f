use Rattle.std.proofs.Common.{Ok, take}
use Rattle.qccd_io.specs.declared.failed.Failed.{Failed}
use Rattle.qccd_io.specs.Sends.{Sends}
use Rattle.transport_asm.specs.ProgramText.{numbered_texts, op_line_text}
use Rattle.transport_asm.proofs.program_texts.send_ops.Given as goal

abbrev pub invariant-loop-number : goal.invariant-loop-number
invariant-loop-number g l = Sends {T = Unit {0}} {E = Failed} g.S.Sink.taken g.S.Sink.faults g.S.Sink.behind l.fn.sink l.sink (Ok tt) (numbered_texts op_line_text 0 (take l.number l.ops))
