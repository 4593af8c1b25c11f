use Rattle.std.proofs.Common.{Ok, zip, take}
use Rattle.std.specs.Prelude.{flat_map}
use Rattle.qccd_io.specs.declared.failed.Failed.{Failed}
use Rattle.qccd_io.specs.Sends.{Sends}
use Rattle.op_text.specs.OpText.{operand_text, next_word}
use Rattle.op_text.proofs.writing.send_operands.Given as goal

abbrev pub invariant-loop-i : goal.invariant-loop-i
invariant-loop-i g l = Sends {T = Unit {0}} {E = Failed} g.S.Sink.taken g.S.Sink.faults g.S.Sink.behind l.fn.sink l.sink (Ok tt) (flat_map (λ operand. next_word (operand_text operand)) (take l.i (zip l.qubits l.at)))
