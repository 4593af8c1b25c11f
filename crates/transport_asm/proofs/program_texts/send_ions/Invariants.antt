use Rattle.std.proofs.Common.{Ok, take}
use Rattle.qccd_io.specs.declared.failed.Failed.{Failed}
use Rattle.qccd_io.specs.Sends.{Sends}
use Rattle.transport_asm.specs.ProgramText.{ions_text}
use Rattle.transport_asm.proofs.program_texts.send_ions.Given as goal

abbrev pub invariant-loop-ion : goal.invariant-loop-ion
invariant-loop-ion g l = Sends {T = Unit {0}} {E = Failed} g.S.Sink.taken g.S.Sink.faults g.S.Sink.behind l.fn.sink l.sink (Ok tt) (ions_text (take l.ion-index l.ions))
