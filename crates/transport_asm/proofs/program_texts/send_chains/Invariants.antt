use Rattle.std.proofs.Common.{Ok, take}
use Rattle.qccd_io.specs.declared.failed.Failed.{Failed}
use Rattle.qccd_io.specs.Sends.{Sends}
use Rattle.transport_asm.specs.ProgramText.{numbered_texts, chain_text}
use Rattle.transport_asm.proofs.program_texts.send_chains.Given as goal

abbrev pub invariant-loop-trap : goal.invariant-loop-trap
invariant-loop-trap g l = Sends {T = Unit {0}} {E = Failed} g.S.Sink.taken g.S.Sink.faults g.S.Sink.behind l.fn.sink l.sink (Ok tt) (numbered_texts chain_text 0 (take l.trap l.program.start))
